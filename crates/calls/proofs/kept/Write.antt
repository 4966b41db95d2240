-- A write keeps the invariant. Assumes nothing.
use Rattle.std.proofs.Common.{◌≡◌, ℕ, true, cond, eqb, List, length, is_some, Some, None, Option, sym, ap, ◌∙◌, arith}
use Rattle.std.specs.Option.{option_map}
use Rattle.std.proofs.lemmas.Bool.{not-false}
use Rattle.rule.specs.declared.Rule.{Rule}
use Rattle.store.specs.declared.Entry.{Entry}
use Rattle.store.specs.declared.Entry.TheVariants.{Intact}
use Rattle.law.specs.Operations.{writing, latest, has_read}
use Rattle.law.specs.Accounts.{Account, with_operation, writes}
use Rattle.law.specs.Accounts.{after as then}
use Rattle.law.proofs.Places.{places_kept}
use Rattle.calls.specs.State.{opened, State, held}
use Rattle.calls.proofs.Tools.{by_number, changed_keeps, cleared, when_none}
use Rattle.calls.proofs.Invariant.{DeskIn, Inv}
use Rattle.calls.specs.Words.{write}
use Rattle.calls.specs.Checks.{first_cause, checks, desk_of, work_of}
use Rattle.calls.specs.Effects.{effect, having_written}
use Rattle.calls.proofs.kept.Phases.{one_open, changes_kept, opened_is, in_phase}

pub write_ok : (first : List Entry) (b : State) (a : Account Rule) (s x : ℕ) (r : Rule) → Inv first b a → first_cause (checks b (write s x r)) ≡ None
    → Inv first (effect b (write s x r)) (then (writes s x r) a)
write_ok first b a s x r inv clear =
    let passed = cleared (checks b (write s x r)) clear in
    let op : (work_of b s).phase ≡ opened = opened_is _ (when_none _ _ (passed 2)) in
    let has : held (desk_of b s) x ≡ true = not-false _ (when_none _ _ (passed 3)) in
    let seen : (work_of b s).read x ≡ true = not-false _ (when_none _ _ (passed 4)) in
    let old = in_phase opened b a s op (inv.works s) in
    let t = old.0 in
    let ok = old.2 in
    record {
      settled = inv.settled;
      changes = changes_kept (length first) s (having_written x r) b.sessions (λ e. cc) a.accepted inv.changes;
      desks = changed_keeps (λ t p. DeskIn first b a t p.desk) s (having_written x r) b.sessions inv.desks (λ ok. ok);
      works =
          one_open b a s (having_written x r) (option_map (with_operation (writing x r))) inv.works op (with_operation (writing x r) t)
          (ap (option_map (with_operation (writing x r))) old.1) (record {
            reads = ok.reads;
            stages = λ y. ap (λ o. cond (eqb y x) (Some r) o) (ok.stages y);
            written_read =
                λ y. by_number (λ v. is_some (cond v (Some r) (latest t.ops y)) ≡ true → has_read t.ops y ≡ true) y x
                (λ z _. ap (has_read t.ops) z ∙ sym (ok.reads x) ∙ seen) (λ _ h. ok.written_read y h);
            read_held = ok.read_held;
            right = (as_held ((desk_of b s).copies x) has, ok.right);
          });
      places = places_kept (writes s x r) a inv.places;
    }
  where
    as_held : (o : Option Rule) → is_some o ≡ true → is_some (option_map Intact o) ≡ true
    as_held o e = grind arith
