-- The checks of a write, and the later checks of a change put forward, by themselves. Assumes nothing.
use Rattle.std.specs.Prelude.{ℕ, List, [], ◌∷◌, Option}
use Rattle.refusal.specs.declared.Refusal.{Refusal}
use Rattle.law.specs.Changes.{Key}
use Rattle.calls.specs.State.{State}
use Rattle.calls.specs.Checks.{no_session, no_slot, wrong_phase, is_opened, not_held, not_read, too_early, stamp_taken, queue_full, later_conflict, pending_conflict, stale_slot, numbers_exhausted}

-- whatever the rule is
abbrev pub write_checks : State → ℕ → ℕ → List (Option Refusal)
write_checks b s x = no_session s ∷ no_slot b x ∷ wrong_phase is_opened b s ∷ not_held b s x ∷ not_read b s x ∷ []

-- those against other changes
abbrev pub clash_checks : State → ℕ → Key → List (Option Refusal)
clash_checks b s k = later_conflict b s k ∷ pending_conflict b s k ∷ stale_slot b s ∷ numbers_exhausted b s ∷ []

-- those of the stamp, and then those against other changes
abbrev pub stamp_checks : State → ℕ → Key → List (Option Refusal)
stamp_checks b s k = too_early b k ∷ stamp_taken b k ∷ queue_full b ∷ clash_checks b s k
