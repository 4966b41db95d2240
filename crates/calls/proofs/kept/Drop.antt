-- A drop keeps the invariant. Assumes nothing.
use Rattle.std.proofs.Common.{◌≡◌, ℕ, List, length, None, refl, ap, arith}
use Rattle.rule.specs.declared.Rule.{Rule}
use Rattle.store.specs.declared.Entry.{Entry}
use Rattle.law.specs.Accounts.{Account, passes}
use Rattle.law.specs.Accounts.{after as then}
use Rattle.law.proofs.Places.{places_kept}
use Rattle.std.proofs.lemmas.Bool.Decides.{nat_tests}
use Rattle.calls.specs.State.{pending, State}
use Rattle.calls.proofs.Tools.{changed_keeps, cleared, when_none}
use Rattle.calls.proofs.Invariant.{DeskIn, WorkIn, Inv}
use Rattle.calls.specs.Words.{drop}
use Rattle.calls.specs.Checks.{first_cause, checks, is_opened, desk_of, work_of}
use Rattle.calls.specs.Effects.{effect, dropped, with_copy}
use Rattle.calls.proofs.kept.Phases.{changes_kept, not_pending}
use Rattle.calls.proofs.kept.Desks.{desk_changed}

pub drop_ok : (first : List Entry) (b : State) (a : Account Rule) (s x : ℕ) → Inv first b a → first_cause (checks b (drop s x)) ≡ None
    → Inv first (effect b (drop s x)) (then passes a)
drop_ok first b a s x inv clear =
    let passed = cleared (checks b (drop s x)) clear in
    let no_pending : (work_of b s).phase ≡ pending → ⊥ = not_pending _ (when_none _ _ (passed 2)) in
    record {
      settled = inv.settled;
      changes = changes_kept (length first) s (dropped x) b.sessions (λ _. refl) a.accepted inv.changes;
      desks = changed_keeps (λ t p. DeskIn first b a t p.desk) s (dropped x) b.sessions inv.desks
          (λ ok. record {
            true_copy = λ y r e z. grind (arith, ok.true_copy y r);
            inside = λ y h. grind (arith, ok.inside y);
            told = λ y h. grind (arith, ok.told y);
            taken_once = λ y h. grind (arith, ok.taken_once y);
            not_learnt = λ y k h e. grind (arith, ok.not_learnt y k);
            within = ok.within;
            learnt_within = ok.learnt_within;
          });
      works = changed_keeps (WorkIn b a) s (dropped x) b.sessions inv.works
          (desk_changed b a s (with_copy x None (desk_of b s)) (work_of b s).phase
          (λ op y r _. grind (arith, nat_tests, ap is_opened op, when_none _ _ (passed 4))) (λ p. absurd (no_pending p)));
      places = places_kept passes a inv.places;
    }
