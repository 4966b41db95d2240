-- A read keeps the invariant, and answers a rule. Assumes nothing.
use Rattle.std.proofs.Common.{◌≡◌, ℕ, true, cond, ◌||◌, eqb, List, length, is_some, Some, None, Option, sym, refl, ap, ◌∙◌, arith}
use Rattle.std.specs.Option.{option_map, option_or}
use Rattle.std.proofs.lemmas.Bool.{not-false, or_right}
use Rattle.rule.specs.declared.Rule.{Rule}
use Rattle.store.specs.declared.Entry.{Entry}
use Rattle.store.specs.declared.Entry.TheVariants.{Intact}
use Rattle.law.specs.Operations.{reading, has_read}
use Rattle.law.specs.Accounts.{Account, with_operation, reads}
use Rattle.law.specs.Accounts.{after as then}
use Rattle.law.proofs.Runs.{over}
use Rattle.law.proofs.Places.{places_kept}
use Rattle.calls.specs.State.{opened, State, held}
use Rattle.calls.proofs.Tools.{by_number, changed_keeps, some_is, cleared, when_none}
use Rattle.calls.proofs.Invariant.{DeskIn, Inv}
use Rattle.calls.specs.Words.{read}
use Rattle.calls.specs.Checks.{first_cause, checks, desk_of, work_of}
use Rattle.calls.specs.Effects.{effect, having_read}
use Rattle.calls.specs.Calls.{shown}
use Rattle.calls.proofs.kept.Phases.{one_open, changes_kept, opened_is, in_phase}

shown_right : (o c : Option Rule) (r : Rule) → option_or o c ≡ Some r → over Intact o (option_map Intact c) ≡ Some (Intact r)
shown_right o c r e = grind arith

other_some : (o c : Option Rule) → is_some c ≡ true → is_some (option_or o c) ≡ true
other_some o c e = grind arith

-- a read that is not turned away shows a rule
pub read_shows : (b : State) (s x : ℕ) → first_cause (checks b (read s x)) ≡ None → (r : Rule) × (shown (b.sessions s) x ≡ Some r)
read_shows b s x clear =
    let passed = cleared (checks b (read s x)) clear in
    some_is (shown (b.sessions s) x) (other_some ((work_of b s).staged x) ((desk_of b s).copies x) (not-false _ (when_none _ _ (passed 3))))

pub read_ok : (first : List Entry) (b : State) (a : Account Rule) (s x : ℕ) (r : Rule) → shown (b.sessions s) x ≡ Some r → Inv first b a
    → first_cause (checks b (read s x)) ≡ None → Inv first (effect b (read s x)) (then (reads s x r) a)
read_ok first b a s x r is inv clear =
    let passed = cleared (checks b (read s x)) clear in
    let op : (work_of b s).phase ≡ opened = opened_is _ (when_none _ _ (passed 2)) in
    let has : held (desk_of b s) x ≡ true = not-false _ (when_none _ _ (passed 3)) in
    let old = in_phase opened b a s op (inv.works s) in
    let t = old.0 in
    let ok = old.2 in
    record {
      settled = inv.settled;
      changes = changes_kept (length first) s (having_read x) b.sessions (λ e. cc) a.accepted inv.changes;
      desks = changed_keeps (λ t p. DeskIn first b a t p.desk) s (having_read x) b.sessions inv.desks (λ ok. ok);
      works =
          one_open b a s (having_read x) (option_map (with_operation (reading x r))) inv.works op (with_operation (reading x r) t)
          (ap (option_map (with_operation (reading x r))) old.1) (record {
            reads = λ y. by_number (λ v. cond v true ((work_of b s).read y) ≡ (v || has_read t.ops y)) y x (λ _. refl) (λ _. ok.reads y);
            stages = ok.stages;
            written_read = λ y h. or_right (eqb y x) _ (ok.written_read y h);
            read_held =
                λ y. by_number (λ v. cond v true ((work_of b s).read y) ≡ true → held (desk_of b s) y ≡ true) y x
                (λ z _. ap (held (desk_of b s)) z ∙ has) (λ _ h. ok.read_held y h);
            right = (
              ap (λ o. over Intact o (option_map Intact ((desk_of b s).copies x))) (sym (ok.stages x))
                  ∙ shown_right ((work_of b s).staged x) ((desk_of b s).copies x) r is,
              ok.right,
            );
          });
      places = places_kept (reads s x r) a inv.places;
    }
