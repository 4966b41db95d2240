-- Sets of slots as tests of a slot, and the first of a list that passes a test. Assumes nothing.
use Rattle.std.specs.Prelude.{ℕ, zero, suc, Bool, cond, ◌&&◌, List, [], ◌∷◌, is_some, Some, None, Option}
use Rattle.std.specs.Option.{option_map, option_or}

-- the lowest number below n that passes a test
abbrev pub lowest : ℕ → (ℕ → Bool) → Option ℕ
lowest zero f = None
lowest (suc n) f = option_or (lowest n f) (cond (f n) (Some n) None)

-- does a number below n pass the test
abbrev pub any_below : ℕ → (ℕ → Bool) → Bool
any_below n f = is_some (lowest n f)

-- have two sets a slot below n in common
abbrev pub meets : ℕ → (ℕ → Bool) → (ℕ → Bool) → Bool
meets n f g = any_below n (λ x. f x && g x)

-- the place of the first in a list that passes a test, from 0
abbrev pub first_place : {X : Type 0} → (X → Bool) → List X → Option ℕ
first_place test [] = None
first_place test (x ∷ xs) = cond (test x) (Some 0) (option_map suc (first_place test xs))
