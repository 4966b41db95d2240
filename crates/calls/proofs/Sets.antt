-- What the lowest slot, the meeting of sets and the first place tell. Assumes nothing.
use Rattle.std.proofs.Common.{◌≡◌, ℕ, zero, suc, ◌<◌, Bool, true, false, ◌&&◌, List, [], ◌∷◌, Some, None, arith}
use Rattle.std.specs.List.{AllByRecursion}
use Rattle.calls.specs.Sets.{lowest, any_below, meets, first_place}

pub lowest_none : (n : ℕ) (f : ℕ → Bool) → lowest n f ≡ None → (x : ℕ) → x < n → f x ≡ false
lowest_none zero f e x lt = absurd (omega arith)
lowest_none (suc n) f e x lt = let below = lowest_none n f in grind arith

pub record Lowest (n : ℕ) (f : ℕ → Bool) (x : ℕ) : Type 0 where
  pub inside : x < n
  pub passes : f x ≡ true
  pub none_below : (y : ℕ) → y < x → f y ≡ false

pub lowest_some : (n : ℕ) (f : ℕ → Bool) (x : ℕ) → lowest n f ≡ Some x → Lowest n f x
lowest_some zero f x e = cc
lowest_some (suc n) f x e =
    let some = lowest_some n f x in
    let none = lowest_none n f in record { inside = grind arith; passes = grind arith; none_below = λ y lt. grind arith }

pub below_any : (n : ℕ) (f : ℕ → Bool) (x : ℕ) → x < n → f x ≡ true → any_below n f ≡ true
below_any n f x lt e = grind (arith, lowest_none n f)

pub apart : (n : ℕ) (f g : ℕ → Bool) → meets n f g ≡ false → (x : ℕ) → x < n → f x ≡ true → g x ≡ true → ⊥
apart n f g e x lt p q = grind (arith, lowest_none n (λ y. f y && g y))

pub no_first : {X : Type 0} (test : X → Bool) (xs : List X) → first_place test xs ≡ None → AllByRecursion (λ x. test x ≡ false) xs
no_first test [] e = tt
no_first test (x ∷ xs) e = (grind arith, no_first test xs (grind arith))
