-- What a session with a pending change owes, and how many notice numbers the queue wants for it. Assumes nothing.
use Rattle.std.proofs.Common.{◌≡◌, ℕ, ◌+◌, ◌≤◌, Bool, true, cond, ◌&&◌, List, [], ◌∷◌, ◌++◌, map, filter, inl, inr, ⊎_elim, arith}
use Rattle.std.proofs.lemmas.Bool.{and_parts, or_cases}
use Rattle.std.proofs.lemmas.Bool.Decides.{nat_tests}
use Rattle.calls.specs.Sets.{any_below}
use Rattle.calls.specs.State.{Queued}
use Rattle.calls.specs.Checks.{owed}
use Rattle.calls.specs.Effects.{own_pending, finished}
use Rattle.calls.proofs.Tools.{Any}
use Rattle.calls.proofs.Owed.{owed_own, Wanting}
use Rattle.room.specs.Room.{owes}

-- one entry's part
abbrev pub part : ℕ → Queued → ℕ
part n q = cond (q.pending && any_below n q.written) 1 0

pub owed_step : (n : ℕ) (q : Queued) (qs : List Queued) → owed n (q ∷ qs) ≡ owed n qs + part n q
owed_step n q qs = grind arith

-- what is owed is wanted by an entry
pub owing : (n s : ℕ) (qs : List Queued) → owes n s qs ≡ true → Any (Wanting n s) qs
owing n s [] e = cc
owing n s (q ∷ qs) e = ⊎_elim (λ here. inl (and_parts _ _ here)) (λ there. inr (owing n s qs there)) (or_cases _ _ e)

pub owed_one : (n s : ℕ) (qs : List Queued) → owes n s qs ≡ true → 1 ≤ owed n qs
owed_one n s qs e = omega (arith, owed_own n s qs (owing n s qs e))

pub owed_finished_less : (n s : ℕ) (qs : List Queued) → owes n s qs ≡ true → owed n (map (finished s) qs) + 1 ≤ owed n qs
owed_finished_less n s qs e = omega (arith, owed_own n s qs (owing n s qs e))

pub owes_push : (n t : ℕ) (q : Queued) (qs : List Queued) → owes n t qs ≡ true → owes n t (qs ++ q ∷ []) ≡ true
owes_push n t q [] e = cc
owes_push n t q (p ∷ qs) e = let rest = owes_push n t q qs in grind arith

pub owes_last : (n t : ℕ) (q : Queued) (qs : List Queued) → (own_pending t q && any_below n q.written) ≡ true → owes n t (qs ++ q ∷ []) ≡ true
owes_last n t q [] e = grind arith
owes_last n t q (p ∷ qs) e = let rest = owes_last n t q qs e in grind arith

-- what keeps a session's pending entries keeps what they owe
pub owes_kept : (n t : ℕ) (keep : Queued → Bool) → ((q : Queued) → own_pending t q ≡ true → keep q ≡ true) → (qs : List Queued) → owes n t qs ≡ true → owes n t (filter keep qs) ≡ true
owes_kept n t keep h [] e = e
owes_kept n t keep h (q ∷ qs) e = let rest = owes_kept n t keep h qs in grind (arith, h q)

-- another session's entry stays pending
pub owes_finished : (n s t : ℕ) → (t ≡ s → ⊥) → (qs : List Queued) → owes n t qs ≡ true → owes n t (map (finished s) qs) ≡ true
owes_finished n s t ne [] e = e
owes_finished n s t ne (q ∷ qs) e = let rest = owes_finished n s t ne qs in grind (arith, nat_tests)
