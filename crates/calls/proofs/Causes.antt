-- The first cause, check by check: for code that tries the checks one after another. Assumes nothing.
use Rattle.std.proofs.Common.{◌≡◌, ℕ, suc, Bool, true, false, cond, not, leb, List, [], ◌∷◌, length, Some, None, Option, refl, ap, ◌∙◌}
use Rattle.std.specs.Option.{option_map, option_or}
use Rattle.std.specs.List.{AllByRecursion}
use Rattle.refusal.specs.declared.Refusal.{Refusal}
use Rattle.law.specs.Changes.{Key, same_key}
use Rattle.calls.specs.Sets.{first_place}
use Rattle.calls.specs.State.{State}
use Rattle.refusal.specs.declared.Refusal.TheVariants.{WrongPhase, StampTooEarly, QueueFull, StampTaken, LaterConflict, PendingConflict, Stale, NumbersExhausted}
use Rattle.calls.specs.Words.{forward}
use Rattle.calls.specs.Checks.{
  when,
  first_cause,
  checks,
  is_opened,
  work_of,
  count,
  not_after,
  later_clash,
  pending_clash,
  wrong_phase,
  too_early,
  stamp_taken,
  queue_full,
  later_conflict,
  pending_conflict,
  stale_slot,
  numbers_exhausted,
}
use Rattle.calls.proofs.kept.Forward.{Accepted}

-- a test that holds tells its cause
pub cause_here : (test : Bool) (cause : Refusal) (more : List (Option Refusal)) → test ≡ true → first_cause (when test cause ∷ more) ≡ Some cause
cause_here test cause more e = ap (λ v. option_or (when v cause) (first_cause more)) e

-- and one that does not leaves it to the others
pub cause_later : (test : Bool) (cause : Refusal) (more : List (Option Refusal)) → test ≡ false
    → first_cause (when test cause ∷ more) ≡ first_cause more
cause_later test cause more e = ap (λ v. option_or (when v cause) (first_cause more)) e

-- the same of a check that tells a place
pub place_here : (f : ℕ → Refusal) (o : Option ℕ) (n : ℕ) (more : List (Option Refusal)) → o ≡ Some n → first_cause (option_map f o ∷ more) ≡ Some (f n)
place_here f o n more e = ap (λ p. option_or (option_map f p) (first_cause more)) e

pub place_later : (f : ℕ → Refusal) (o : Option ℕ) (more : List (Option Refusal)) → o ≡ None → first_cause (option_map f o ∷ more) ≡ first_cause more
place_later f o more e = ap (λ p. option_or (option_map f p) (first_cause more)) e

none_first : {X : Type 0} (test : X → Bool) (xs : List X) → AllByRecursion (λ x. test x ≡ false) xs → first_place test xs ≡ None
none_first test [] alls = refl
none_first test (x ∷ xs) alls =
    ap (λ v. cond v (Some 0) (option_map suc (first_place test xs))) alls.0 ∙ ap (option_map suc) (none_first test xs alls.1)

-- a forward of which nothing is to be said against is turned away by no check
pub accepted_from : (b : State) (s : ℕ) (k : Key) → leb 8 s ≡ false → Accepted b s k → first_cause (checks b (forward s k)) ≡ None
accepted_from b s k known ac =
    cause_later (leb 8 s) _
    (wrong_phase is_opened b s ∷ too_early b k ∷ stamp_taken b k ∷ queue_full b ∷ later_conflict b s k ∷ pending_conflict b s k ∷ stale_slot b s ∷ numbers_exhausted b s ∷ []) known
    ∙ cause_later (not (is_opened (work_of b s).phase)) (WrongPhase s)
    (too_early b k ∷ stamp_taken b k ∷ queue_full b ∷ later_conflict b s k ∷ pending_conflict b s k ∷ stale_slot b s ∷ numbers_exhausted b s ∷ [])
    (ap (λ p. not (is_opened p)) ac.is_open)
    ∙ cause_later (not_after b.threshold k) StampTooEarly
    (stamp_taken b k ∷ queue_full b ∷ later_conflict b s k ∷ pending_conflict b s k ∷ stale_slot b s ∷ numbers_exhausted b s ∷ [])
    ac.after_threshold
    ∙ place_later StampTaken _ (queue_full b ∷ later_conflict b s k ∷ pending_conflict b s k ∷ stale_slot b s ∷ numbers_exhausted b s ∷ [])
    (none_first (λ q. same_key q.key k) b.queue ac.new_stamp)
    ∙ cause_later (leb 32 (length b.queue)) QueueFull (later_conflict b s k ∷ pending_conflict b s k ∷ stale_slot b s ∷ numbers_exhausted b s ∷ [])
    ac.room
    ∙ place_later LaterConflict _ (pending_conflict b s k ∷ stale_slot b s ∷ numbers_exhausted b s ∷ [])
    (none_first (later_clash (count b) k (work_of b s)) b.queue ac.no_later_clash)
    ∙ place_later PendingConflict _ (stale_slot b s ∷ numbers_exhausted b s ∷ [])
    (none_first (pending_clash (count b) k (work_of b s)) b.queue ac.no_pending_clash)
    ∙ place_later Stale _ (numbers_exhausted b s ∷ []) ac.not_stale
    ∙ cause_later _ NumbersExhausted [] ac.number_left
