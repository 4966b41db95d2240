-- A begin keeps the invariant. Assumes nothing.
use Rattle.std.proofs.Common.{◌≡◌, ℕ, List, [], length, Some, None, refl}
use Rattle.rule.specs.declared.Rule.{Rule}
use Rattle.store.specs.declared.Entry.{Entry}
use Rattle.law.specs.Accounts.{Account, begins}
use Rattle.law.specs.Accounts.{after as then}
use Rattle.law.proofs.Places.{places_kept}
use Rattle.calls.specs.State.{idle, State}
use Rattle.calls.proofs.Tools.{changed_keeps, cleared, when_none}
use Rattle.calls.proofs.Invariant.{DeskIn, Inv}
use Rattle.calls.specs.Words.{begin}
use Rattle.calls.specs.Checks.{first_cause, checks, work_of}
use Rattle.calls.specs.Effects.{effect, begun}
use Rattle.calls.proofs.kept.Phases.{one_open, changes_kept, idle_is}

pub begin_ok : (first : List Entry) (b : State) (a : Account Rule) (s : ℕ) → Inv first b a → first_cause (checks b (begin s)) ≡ None
    → Inv first (effect b (begin s)) (then (begins s) a)
begin_ok first b a s inv clear =
    let is : (work_of b s).phase ≡ idle = idle_is _ (when_none _ _ (cleared (checks b (begin s)) clear 1)) in
    record {
      settled = inv.settled;
      changes = changes_kept (length first) s begun b.sessions (λ e. cc) a.accepted inv.changes;
      desks = changed_keeps (λ t p. DeskIn first b a t p.desk) s begun b.sessions inv.desks (λ ok. ok);
      works =
          one_open b a s begun (λ _. Some (record { began = a.place; ops = [] })) inv.works refl (record { began = a.place; ops = [] }) refl
          (record {
            reads = λ x. refl;
            stages = λ x. refl;
            written_read = λ x e. e;
            read_held = λ x e. cc;
            right = tt;
          });
      places = places_kept (begins s) a inv.places;
    }
