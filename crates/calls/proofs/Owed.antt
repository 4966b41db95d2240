-- How many notice numbers the queue wants, as the queue changes. Assumes nothing.
use Rattle.std.proofs.Common.{◌≡◌, ℕ, suc, ◌+◌, ◌≤◌, Bool, true, cond, ◌&&◌, List, [], ◌∷◌, ◌++◌, map, filter, inl, inr, arith}
use Rattle.calls.specs.Sets.{any_below}
use Rattle.calls.specs.State.{Queued}
use Rattle.calls.specs.Checks.{owed}
use Rattle.calls.specs.Effects.{own_pending, finished}
use Rattle.calls.proofs.Tools.{Any}

-- does an entry still want a number
abbrev pub wants : ℕ → Queued → Bool
wants n q = q.pending && any_below n q.written

pub owed_push : (n : ℕ) (q : Queued) (qs : List Queued) → owed n (qs ++ q ∷ []) ≡ owed n qs + cond (wants n q) 1 0
owed_push n q [] = grind arith
owed_push n q (p ∷ qs) = let rest = owed_push n q qs in grind arith

pub owed_kept : (n : ℕ) (keep : Queued → Bool) (qs : List Queued) → owed n (filter keep qs) ≤ owed n qs
owed_kept n keep [] = omega arith
owed_kept n keep (q ∷ qs) = let rest = owed_kept n keep qs in grind arith

-- an entry that becomes committed wants none
pub owed_finished : (n s : ℕ) (qs : List Queued) → owed n (map (finished s) qs) ≤ owed n qs
owed_finished n s [] = omega arith
owed_finished n s (q ∷ qs) = let rest = owed_finished n s qs in grind arith

-- an entry of the session that wants a number
abbrev pub Wanting : ℕ → ℕ → Queued → Type 0
Wanting n s q = (own_pending s q ≡ true) × (any_below n q.written ≡ true)

-- one fewer, where the session's own entry wanted one
pub owed_own : (n s : ℕ) (qs : List Queued) → Any (Wanting n s) qs → suc (owed n (map (finished s) qs)) ≤ owed n qs
owed_own n s [] h = absurd h
owed_own n s (q ∷ qs) (inl own) = let rest = owed_finished n s qs in grind arith
owed_own n s (q ∷ qs) (inr h) = let rest = owed_own n s qs h in grind arith
