-- What `get` and `put` of a slot come to, inside the list and outside. Assumes nothing.
use Rattle.std.specs.Prelude.{◌≡◌, ℕ, zero, suc, ◌+◌, ◌<◌, ◌≤◌, List, [], ◌∷◌, length, drop, is_ok, Ok, Err, slice_index_or, slice_set, refl}
use Rattle.std.proofs.Common.{ap, ⊎_elim, add-one, arith}
use Rattle.std.proofs.lemmas.Bool.{cond-true, cases_lt}
use Rattle.std.specs.List.{slice_get}
use Rattle.std.proofs.lemmas.List.{drop_all}
use Rattle.std.proofs.lemmas.Option.{slice_get-get_or, slice_get_past}
use Rattle.refusal.specs.declared.Refusal.TheVariants.{SlotOutsideStore, Damaged}
use Rattle.refusal.specs.declared.Refusal.{Refusal}
use Rattle.rule.specs.declared.Rule.{Rule}
use Rattle.store.specs.declared.Entry.{Entry}
use Rattle.store.specs.declared.Entry.TheVariants.{Intact, Broken}
use Rattle.store.specs.Entries.{answer, answer_at, got, put_into, whole}

pub got_outside : (l : List Entry) (x : ℕ) → length l ≤ x → got l x ≡ Err (SlotOutsideStore x)
got_outside l x le = ap (λ o. answer_at o x) (slice_get_past l x le)

pub got_inside : (l : List Entry) (x : ℕ) (d : Entry) → x < length l → got l x ≡ answer (slice_index_or l x d)
got_inside l x d lt = ap (λ o. answer_at o x) (slice_get-get_or l x d lt)

-- a slot that gives a rule is in the list
pub inside_from_got : (l : List Entry) (x : ℕ) (q : Rule) → got l x ≡ Ok q → x < length l
inside_from_got l x q e =
    ⊎_elim (λ lt. lt) (λ le. let no = got_outside l x le in absurd (let z : ◌≡◌ {A = ℕ} 0 1 = cc in omega arith)) (cases_lt x (length l))

-- and a put there is done
pub put_where_got : (l : List Entry) (x : ℕ) (r q : Rule) → got l x ≡ Ok q → put_into l x r ≡ slice_set l x (Intact r)
put_where_got l x r q e = cond-true (is_ok (got l x)) (slice_set l x (Intact r)) l (ap is_ok e)

module _ (y : ℕ) where
  walk_on : (l : List Entry) (x : ℕ) (q : Rule) → answer_at (slice_get l x) y ≡ Ok q → whole (drop x l) ≡ whole (drop (suc x) l)
  walk_on [] x q e = absurd (let z : ◌≡◌ {A = ℕ} 0 1 = cc in omega arith)
  walk_on (Intact r ∷ l) zero q e = refl
  walk_on (Broken d ∷ l) zero q e = absurd (let z : ◌≡◌ {A = ℕ} 0 1 = cc in omega arith)
  walk_on (a ∷ l) (suc x) q e = walk_on l x q e

  walk_ends : (l : List Entry) (x : ℕ) (why : Refusal) → x < length l → answer_at (slice_get l x) y ≡ Err why → whole (drop x l) ≡ Err why
  walk_ends [] x why lt e = absurd (omega arith)
  walk_ends (Intact r ∷ l) zero why lt e = absurd (let z : ◌≡◌ {A = ℕ} 0 1 = cc in omega arith)
  walk_ends (Broken d ∷ l) zero why lt e = let same : Damaged d ≡ why = cc in ap Err same
  walk_ends (a ∷ l) (suc x) why lt e = walk_ends l x why (omega arith) e

-- a walk over the slots goes on behind a rule, and ends at a damage
pub whole_more : (l : List Entry) (x : ℕ) (q : Rule) → got l x ≡ Ok q → whole (drop x l) ≡ whole (drop (x + 1) l)
whole_more l x q e = rw add-one (walk_on x l x q e)

pub whole_stop : (l : List Entry) (x : ℕ) (why : Refusal) → x < length l → got l x ≡ Err why → whole (drop x l) ≡ Err why
whole_stop l x why lt e = walk_ends x l x why lt e

pub whole_all : (l : List Entry) (x : ℕ) → length l ≤ x → whole (drop x l) ≡ Ok tt
whole_all l x le = ap whole (drop_all x l le)
