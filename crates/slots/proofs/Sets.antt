-- Laws of sets of slots, for every bound. Assumes nothing.
use Rattle.std.proofs.Common.{◌≡◌, ℕ, zero, suc, ◌+◌, ◌<◌, ◌≤◌, Bool, true, false, cond, not, ◌&&◌, ◌||◌, eqb, ltb, ◌⊎◌, Some, None, Decides, Option, sym, refl, ap, ◌∙◌, ap₂, inl, inr, ⊎_elim, add-one, arith}
use mathlib.Core.Path.{fun_ext}
use mathlib.Core.Bool.{and_comm, and-true, or-false}
use Rattle.std.proofs.lemmas.Bool.{both_ways, eq-eqb, ne_eqb, lt-ltb, le-ltb, and_parts, and_from, and_left, and_right, or_left, or_right, or_cases, or_from, not_from_true, cases_lt, cases_eq, cases_Bool}
use Rattle.slots.specs.Sets.{none, alone, either, both, without, inserted, removed, any_below, tally_below, or_else, least_below, any, tally, least, meet, Lowest, Meeting}

-- ---- member by member

pub none_at : (y : ℕ) → none y ≡ false
none_at y = refl

pub alone_at : (x y : ℕ) → alone x y ≡ (eqb y x && ltb x 64)
alone_at x y = refl

pub either_at : (f g : ℕ → Bool) (y : ℕ) → either f g y ≡ (f y || g y)
either_at f g y = refl

pub both_at : (f g : ℕ → Bool) (y : ℕ) → both f g y ≡ (f y && g y)
both_at f g y = refl

pub without_at : (f g : ℕ → Bool) (y : ℕ) → without f g y ≡ (f y && not (g y))
without_at f g y = refl

-- a slot is alone in its set
pub alone_same : (x : ℕ) → x < 64 → alone x x ≡ true
alone_same x h = and_from _ _ (eq-eqb x x refl) (lt-ltb x 64 h)

pub alone_other : (x y : ℕ) → (y ≡ x → ⊥) → alone x y ≡ false
alone_other x y ne = and_left _ _ (ne_eqb y x ne)

-- what is no slot is in no set alone
pub alone_outside : (x : ℕ) → 64 ≤ x → alone x ≡ none
alone_outside x h = fun_ext (λ y. and_right (eqb y x) _ (le-ltb x 64 h))

-- a slot is in the set that it was inserted into
pub inserted_same : (f : ℕ → Bool) (x : ℕ) → x < 64 → inserted f x x ≡ true
inserted_same f x h = either_at f (alone x) x ∙ or_right (f x) _ (alone_same x h)

pub inserted_other : (f : ℕ → Bool) (x y : ℕ) → (y ≡ x → ⊥) → inserted f x y ≡ f y
inserted_other f x y ne = either_at f (alone x) y ∙ ap (λ b. f y || b) (alone_other x y ne) ∙ or-false (f y)

-- what is no slot is not inserted
pub inserted_outside : (f : ℕ → Bool) (x : ℕ) → 64 ≤ x → inserted f x ≡ f
inserted_outside f x h = fun_ext (λ y. either_at f (alone x) y ∙ ap (λ b. f y || b) (ap (λ g. g y) (alone_outside x h) ∙ none_at y) ∙ or-false (f y))

pub inserted_at : (f : ℕ → Bool) (x y : ℕ) → inserted f x y ≡ (f y || (eqb y x && ltb x 64))
inserted_at f x y = refl

-- a slot is not in the set that it was removed from
pub removed_same : (f : ℕ → Bool) (x : ℕ) → x < 64 → removed f x x ≡ false
removed_same f x h = without_at f (alone x) x ∙ and_right (f x) _ (not_from_true _ (alone_same x h))

pub removed_other : (f : ℕ → Bool) (x y : ℕ) → (y ≡ x → ⊥) → removed f x y ≡ f y
removed_other f x y ne = without_at f (alone x) y ∙ ap (λ b. f y && not b) (alone_other x y ne) ∙ and-true (f y)

-- what is no slot is not removed
pub removed_outside : (f : ℕ → Bool) (x : ℕ) → 64 ≤ x → removed f x ≡ f
removed_outside f x h = fun_ext (λ y. without_at f (alone x) y ∙ ap (λ b. f y && not b) (ap (λ g. g y) (alone_outside x h) ∙ none_at y) ∙ and-true (f y))

pub removed_at : (f : ℕ → Bool) (x y : ℕ) → removed f x y ≡ (f y && not (eqb y x && ltb x 64))
removed_at f x y = refl

-- ---- any

pub any_start : (f : ℕ → Bool) → any_below 0 f ≡ false
unfolding any_below
any_start f = refl

pub any_more : (n : ℕ) (f : ℕ → Bool) → any_below (n + 1) f ≡ (any_below n f || f n)
unfolding any_below
any_more n f = ap (λ m. any_below m f) (add-one n)

pub any_from : (n : ℕ) (f : ℕ → Bool) (x : ℕ) → x < n → f x ≡ true → any_below n f ≡ true
unfolding any_below
any_from zero f x h e = absurd (omega arith)
any_from (suc n) f x h e =
    ⊎_elim (λ (s : x ≡ n). or_right (any_below n f) (f n) (ap f (sym s) ∙ e)) (λ ne. or_left (any_below n f) (f n) (any_from n f x (omega arith) e))
    (cases_eq x n)

pub any_not : (n : ℕ) (f : ℕ → Bool) → ((x : ℕ) → x < n → f x ≡ false) → any_below n f ≡ false
unfolding any_below
any_not zero f h = refl
any_not (suc n) f h = or_from _ _ (any_not n f (λ x l. h x (omega arith))) (h n (omega arith))

pub not_any : (n : ℕ) (f : ℕ → Bool) → any_below n f ≡ false → (x : ℕ) → x < n → f x ≡ false
not_any n f e x h = ⊎_elim (λ t. absurd (both_ways _ e (any_from n f x h t))) (λ t. t) (cases_Bool (f x))

pub any_some : (n : ℕ) (f : ℕ → Bool) → any_below n f ≡ true → (x : ℕ) × (x < n) × (f x ≡ true)
unfolding any_below
any_some zero f e = absurd (both_ways false refl e)
any_some (suc n) f e =
    ⊎_elim (λ t. let s = any_some n f t in (s.0, omega (arith, s.1), s.2)) (λ t. (n, omega arith, t)) (or_cases (any_below n f) (f n) e)

-- ---- two sets meet

pub both_comm : (f g : ℕ → Bool) → both f g ≡ both g f
both_comm f g = fun_ext (λ y. both_at f g y ∙ and_comm (f y) (g y) ∙ sym (both_at g f y))

pub meet_comm : (f g : ℕ → Bool) → meet f g ≡ meet g f
meet_comm f g = ap any (both_comm f g)

pub none_meets : (g : ℕ → Bool) → meet none g ≡ false
none_meets g = any_not 64 (both none g) (λ x h. refl)

-- true exactly where some slot is in both
pub meet_decides : (f g : ℕ → Bool) → Decides (meet f g) (Meeting f g)
meet_decides f g = (
  λ e. let s = any_some 64 (both f g) e in
      let p = and_parts (f s.0) (g s.0) (sym (both_at f g s.0) ∙ s.2) in
      record { slot = s.0; inside = s.1; one = p.0; other = p.1 },
  λ m. any_from 64 (both f g) m.slot m.inside (both_at f g m.slot ∙ and_from _ _ m.one m.other),
)

-- ---- the least

-- a set with no number below n has no least one
pub least_not : (n : ℕ) (f : ℕ → Bool) → ((x : ℕ) → x < n → f x ≡ false) → least_below n f ≡ None
unfolding least_below
least_not zero f h = refl
least_not (suc n) f h = ap₂ (λ o b. or_else o n b) (least_not n f (λ x l. h x (omega arith))) (h n (omega arith))

pub least_is : (n : ℕ) (f : ℕ → Bool) (x : ℕ) → x < n → f x ≡ true → ((y : ℕ) → y < x → f y ≡ false) → least_below n f ≡ Some x
unfolding least_below
least_is zero f x h e first = absurd (omega arith)
least_is (suc n) f x h e first =
    ⊎_elim (λ l. ap (λ o. or_else o n (f n)) (least_is n f x l e first))
    (λ l. let s : n ≡ x = omega arith in
    ap₂ (λ o b. or_else o n b) (least_not n f (λ y k. first y (omega arith))) (ap f s ∙ e) ∙ ap Some s)
    (cases_lt x n)

pub least_lowest : (f : ℕ → Bool) (x : ℕ) → Lowest f x → least f ≡ Some x
least_lowest f x l = least_is 64 f x l.inside l.member l.first

pub least_none : least none ≡ None
least_none = least_not 64 none (λ x l. none_at x)

some_inj : {x y : ℕ} → Some x ≡ Some y → x ≡ y
some_inj e = cc

some_not_none : {X : Type 0} {x : ℕ} → ◌≡◌ {A = Option ℕ} None (Some x) → X
some_not_none e = absurd (let z : ◌≡◌ {A = ℕ} 0 1 = cc in omega arith)

-- what was found, or else n, is x
found : (n x : ℕ) (o : Option ℕ) (b : Bool) → or_else o n b ≡ Some x → (o ≡ Some x) ⊎ ((o ≡ None) × (b ≡ true) × (n ≡ x))
found n x (Some y) b e = inl e
found n x None true e = inr (refl, refl, some_inj e)
found n x None false e = some_not_none e

not_found : (n : ℕ) (o : Option ℕ) (b : Bool) → or_else o n b ≡ None → (o ≡ None) × (b ≡ false)
not_found n (Some y) b e = some_not_none (sym e)
not_found n None true e = some_not_none (sym e)
not_found n None false e = (refl, refl)

pub not_least : (n : ℕ) (f : ℕ → Bool) → least_below n f ≡ None → (x : ℕ) → x < n → f x ≡ false
unfolding least_below
not_least zero f e x h = absurd (omega arith)
not_least (suc n) f e x h =
    let p = not_found n (least_below n f) (f n) e in
    ⊎_elim (λ l. not_least n f p.0 x l) (λ l. let s : x ≡ n = omega arith in ap f s ∙ p.1) (cases_lt x n)

pub least_some : (n : ℕ) (f : ℕ → Bool) (x : ℕ) → least_below n f ≡ Some x → (x < n) × (f x ≡ true) × ((y : ℕ) → y < x → f y ≡ false)
unfolding least_below
least_some zero f x e = some_not_none e
least_some (suc n) f x e = ⊎_elim
    (λ o. let s = least_some n f x o in (omega (arith, s.0), s.1, s.2))
    (λ p. (omega (arith, p.2), ap f (sym p.2) ∙ p.1, λ y l. not_least n f p.0 y (omega (arith, p.2))))
    (found n x (least_below n f) (f n) e)

-- the lowest slot of a set is in it, below 64, and no lower one is
pub lowest_least : (f : ℕ → Bool) (x : ℕ) → least f ≡ Some x → Lowest f x
lowest_least f x e = let s = least_some 64 f x e in record { inside = s.0; member = s.1; first = s.2 }

-- ---- how many

-- a loop over the slots from 0 on
pub tally_start : (f : ℕ → Bool) → tally_below 0 f ≡ 0
unfolding tally_below
tally_start f = refl

pub tally_more : (n : ℕ) (f : ℕ → Bool) → tally_below (n + 1) f ≡ tally_below n f + cond (f n) 1 0
unfolding tally_below
tally_more n f = ap (λ m. tally_below m f) (add-one n)

-- two sets alike below n have as many numbers below it
pub tally_same : (n : ℕ) (f g : ℕ → Bool) → ((x : ℕ) → x < n → f x ≡ g x) → tally_below n f ≡ tally_below n g
unfolding tally_below
tally_same zero f g h = refl
tally_same (suc n) f g h = ap₂ (λ k b. k + cond b 1 0) (tally_same n f g (λ x l. h x (omega arith))) (h n (omega arith))

pub tally_le : (n : ℕ) (f : ℕ → Bool) → tally_below n f ≤ n
unfolding tally_below
tally_le zero f = omega arith
tally_le (suc n) f = ⊎_elim (λ e. rw e (omega (arith, tally_le n f))) (λ e. rw e (omega (arith, tally_le n f))) (cases_Bool (f n))

-- g is f but for x, which is in f: it has one number fewer
pub tally_less : (n : ℕ) (f g : ℕ → Bool) (x : ℕ) → x < n → f x ≡ true → g x ≡ false → ((y : ℕ) → (y ≡ x → ⊥) → g y ≡ f y) → tally_below n g + 1 ≡ tally_below n f
unfolding tally_below
tally_less zero f g x h e z same = absurd (omega arith)
tally_less (suc n) f g x h e z same =
    ⊎_elim
    (λ l. let rest = tally_less n f g x l e z same in
    let here : ◌≡◌ {A = ℕ} (cond (g n) 1 0) (cond (f n) 1 0) = ap (λ b. cond b 1 0) (same n (λ s. omega arith)) in omega (arith, rest, here))
    (λ l. let s : n ≡ x = omega arith in
    let gone : ◌≡◌ {A = ℕ} (cond (g n) 1 0) 0 = ap (λ b. cond b 1 0) (ap g s ∙ z) in
    let there : ◌≡◌ {A = ℕ} (cond (f n) 1 0) 1 = ap (λ b. cond b 1 0) (ap f s ∙ e) in
    let rest = tally_same n g f (λ y k. same y (λ t. omega arith)) in omega (arith, rest, gone, there))
    (cases_lt x n)

-- a loop that takes the lowest slot out each turn: it lowers the number by one
pub tally_removed : (f : ℕ → Bool) (x : ℕ) → Lowest f x → tally (removed f x) + 1 ≡ tally f
tally_removed f x l = tally_less 64 f (removed f x) x l.inside l.member (removed_same f x l.inside) (removed_other f x)

pub tally_none : (n : ℕ) → tally_below n none ≡ 0
unfolding tally_below
tally_none zero = refl
tally_none (suc n) = ap (λ k. k + 0) (tally_none n)
