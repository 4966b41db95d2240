-- The notice number of a commit, and what a commit leaves. Assumes nothing.
use Rattle.std.proofs.Common.{◌≡◌, ℕ, suc, ◌+◌, ◌<◌, min, Bool, true, cond, map, None, sym, ap, ◌∙◌, arith}
use Rattle.session.specs.Views.{after_commit}
use Rattle.calls.specs.Sets.{any_below}
use Rattle.calls.specs.State.{State, written}
use Rattle.calls.specs.Words.{commit}
use Rattle.calls.specs.Checks.{first_cause, checks, count, work_of, last_number}
use Rattle.calls.specs.Effects.{number_after, puts, finished}
use Rattle.calls.specs.Calls.{after, after_where}
use Rattle.room.specs.Room.{Room}
use Rattle.room.proofs.Rooms.{room_next}

-- where a number is left, the sum that stops at the last one is the next number
pub number_next : (b : State) (s n : ℕ) → Room b → first_cause (checks b (commit s)) ≡ None → any_below (count b) (written (work_of b s)) ≡ true → n ≡ min (b.number + 1) last_number → n ≡ number_after b s
number_next b s n r none any is =
    let less : b.number < last_number = room_next b r s none any in
    let next : n ≡ suc b.number = omega arith in
    next ∙ sym (ap (λ t. cond t (suc b.number) b.number) any)

-- the state after a commit, by its parts
pub commit_leaves : (b later : State) (s : ℕ) (slots : ℕ → Bool) → first_cause (checks b (commit s)) ≡ None → later.number ≡ number_after b s → slots ≡ written (work_of b s)
    → later.entries ≡ puts (count b) (work_of b s).staged b.entries → later.sessions ≡ after_commit s slots later.number b.sessions → later.queue ≡ map (finished s) b.queue → later.threshold ≡ b.threshold
    → later ≡ after b (commit s)
commit_leaves b later s slots none number wrote put told queue threshold =
    let told' : later.sessions ≡ after_commit s (written (work_of b s)) (number_after b s) b.sessions = cc in
    let h = sym (ap (λ o. after_where o b (commit s)) none) in
    rw (put, told', queue, threshold, number) h
