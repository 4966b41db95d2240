-- A receipt keeps the invariant: the notices that go are on slots that are not held. Assumes nothing.
use Rattle.std.proofs.Common.{◌≡◌, ℕ, ◌≤◌, List, length, None, refl, ap, arith}
use Rattle.std.proofs.lemmas.Bool.{not-false, leb-true}
use Rattle.rule.specs.declared.Rule.{Rule}
use Rattle.store.specs.declared.Entry.{Entry}
use Rattle.law.specs.Accounts.{Account, passes}
use Rattle.law.specs.Accounts.{after as then}
use Rattle.law.proofs.Places.{places_kept}
use Rattle.std.proofs.lemmas.Bool.Decides.{nat_tests}
use Rattle.calls.proofs.kept.Desks.{desk_changed}
use Rattle.calls.specs.State.{State}
use Rattle.calls.proofs.Tools.{changed_keeps, cleared, when_none}
use Rattle.calls.proofs.Invariant.{DeskIn, WorkIn, Inv}
use Rattle.calls.specs.Words.{receipt}
use Rattle.calls.specs.Checks.{first_cause, checks, desk_of, work_of}
use Rattle.calls.specs.Effects.{effect, receipted, up_to_gone}
use Rattle.calls.proofs.kept.Phases.{changes_kept}

pub receipt_ok : (first : List Entry) (b : State) (a : Account Rule) (s n : ℕ) → Inv first b a → first_cause (checks b (receipt s n)) ≡ None
    → Inv first (effect b (receipt s n)) (then passes a)
receipt_ok first b a s n inv clear =
    let passed = cleared (checks b (receipt s n)) clear in
    let low : n ≤ (desk_of b s).learnt = leb-true _ _ (not-false _ (when_none _ _ (passed 1))) in
    record {
      settled = inv.settled;
      changes = changes_kept (length first) s (receipted n) b.sessions (λ _. refl) a.accepted inv.changes;
      desks = changed_keeps (λ t p. DeskIn first b a t p.desk) s (receipted n) b.sessions inv.desks
          (λ ok. record {
            true_copy = λ x r e z. grind (arith, nat_tests, ok.true_copy x r, ok.not_learnt x);
            inside = ok.inside;
            told = λ x h. grind (arith, nat_tests, ok.told x, ok.not_learnt x);
            taken_once = ok.taken_once;
            not_learnt = λ x k h e. grind (arith, ok.not_learnt x k);
            within = λ x k e. grind (arith, ok.within x k);
            learnt_within = ok.learnt_within;
          });
      works = changed_keeps (WorkIn b a) s (receipted n) b.sessions inv.works
          (desk_changed b a s (receipted n (b.sessions s)).desk (work_of b s).phase (λ _ x _ _. refl) (λ _ x z. ap (up_to_gone n) z));
      places = places_kept passes a inv.places;
    }
