-- What holds of every slot set. Assumes nothing.
use Rattle.std.proofs.Common.{◌≡◌, ℕ, ◌+◌, ◌<◌, ◌≤◌, Bool, true, false, cond, not, ◌&&◌, Decides, sym, refl, ap, ◌∙◌, ⊎_elim, add-zero, arith}
use mathlib.Core.Path.{fun_ext}
use mathlib.Core.Bool.{and-true}
use Rattle.std.proofs.lemmas.Bool.{le-ltb, ltb-true, and_left, and_right, and_parts, both_ways, cases_lt, cases_eq, cases_Bool}
use Rattle.slots.specs.declared.SlotSet.{SlotSet}
use Rattle.slots.specs.Sets.{none, alone, both, removed, any, tally, meet}
use Rattle.slots.specs.Meaning.{has}
use Rattle.slots.proofs.Sets.{none_at, both_at, without_at, alone_same, alone_other, removed_same, removed_other, any_from, any_not, not_any, tally_same, tally_less}

-- no set has a slot of 64 or more
pub has_outside : (s : SlotSet) (x : ℕ) → 64 ≤ x → has s x ≡ false
unfolding has
has_outside s x h = and_left _ _ (le-ltb x 64 h)

-- what is in a set is a slot
pub has_inside : (s : SlotSet) (x : ℕ) → has s x ≡ true → x < 64
unfolding has
has_inside s x e = ltb-true x 64 (and_parts _ _ e).0

-- a set with no slot below 64 has none
pub none_from : (s : SlotSet) → ((x : ℕ) → x < 64 → has s x ≡ false) → has s ≡ none
none_from s h = fun_ext (λ x. ⊎_elim (h x) (has_outside s x) (cases_lt x 64) ∙ sym (none_at x))

-- a set meets a slot alone exactly where the slot is in the set
pub meet_alone : (s : SlotSet) (x : ℕ) → meet (has s) (alone x) ≡ has s x
meet_alone s x = ⊎_elim inside outside (cases_lt x 64)
  where
    other : (y : ℕ) → (y ≡ x → ⊥) → both (has s) (alone x) y ≡ false
    other y ne = both_at (has s) (alone x) y ∙ and_right (has s y) _ (alone_other x y ne)

    here : x < 64 → both (has s) (alone x) x ≡ has s x
    here l = both_at (has s) (alone x) x ∙ ap (λ b. has s x && b) (alone_same x l) ∙ and-true (has s x)

    inside : x < 64 → meet (has s) (alone x) ≡ has s x
    inside l = ⊎_elim
        (λ e. any_from 64 (both (has s) (alone x)) x l (here l ∙ e) ∙ sym e)
        (λ e. any_not 64 (both (has s) (alone x)) (λ y k. ⊎_elim (λ (same : y ≡ x). ap (both (has s) (alone x)) same ∙ here l ∙ e) (other y) (cases_eq y x)) ∙ sym e)
        (cases_Bool (has s x))

    outside : 64 ≤ x → meet (has s) (alone x) ≡ has s x
    outside l = any_not 64 (both (has s) (alone x)) (λ y k. other y (λ e. omega arith)) ∙ sym (has_outside s x l)

-- taking out a slot lowers the number by one where the slot was in the set
pub fewer_removed : (s : SlotSet) (x : ℕ) → tally (removed (has s) x) + cond (has s x) 1 0 ≡ tally (has s)
fewer_removed s x = ⊎_elim
    (λ e. rw e (tally_less 64 (has s) (removed (has s) x) x (has_inside s x e) e (removed_same (has s) x (has_inside s x e)) (removed_other (has s) x)))
    (λ e. rw e (ap (λ k. k + 0) (tally_same 64 (removed (has s) x) (has s) (λ y l. kept e y)) ∙ add-zero _))
    (cases_Bool (has s x))
  where
    kept : has s x ≡ false → (y : ℕ) → removed (has s) x y ≡ has s y
    kept e y = ⊎_elim (λ (same : y ≡ x). without_at (has s) (alone x) y ∙ and_left _ _ (ap (has s) same ∙ e) ∙ sym (ap (has s) same ∙ e)) (removed_other (has s) x y) (cases_eq y x)

-- a test that tells the empty set says whether some slot is in it
pub empty_any : (s : SlotSet) (r : Bool) → Decides r (has s ≡ none) → r ≡ not (any (has s))
empty_any s true d = sym (ap not (any_not 64 (has s) (λ x l. ap (λ f. f x) (d.0 refl) ∙ none_at x)))
empty_any s false d = sym (ap not (⊎_elim (λ e. e) (λ e. absurd (both_ways false refl (d.1 (none_from s (not_any 64 (has s) e))))) (cases_Bool (any (has s)))))
