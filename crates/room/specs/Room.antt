-- There is a notice number left for every pending change that writes. Assumes nothing.
use Rattle.std.specs.Prelude.{◌≡◌, ℕ, ◌+◌, ◌≤◌, Bool, true, false, ◌&&◌, ◌||◌, List, [], ◌∷◌}
use Rattle.calls.specs.Sets.{any_below}
use Rattle.calls.specs.State.{Queued, State, written}
use Rattle.calls.specs.Checks.{is_pending, count, work_of, owed, last_number}
use Rattle.calls.specs.Effects.{own_pending}

-- a session has a pending change in the queue that writes
abbrev pub owes : ℕ → ℕ → List Queued → Bool
owes n s [] = false
owes n s (q ∷ qs) = (own_pending s q && any_below n q.written) || owes n s qs

-- what holds of every book that calls lead to
pub record Room (b : State) : Type 0 where
  pub numbers : b.number + owed (count b) b.queue ≤ last_number
  pub pending : (s : ℕ) → is_pending (work_of b s).phase ≡ true → any_below (count b) (written (work_of b s)) ≡ true → owes (count b) s b.queue ≡ true
