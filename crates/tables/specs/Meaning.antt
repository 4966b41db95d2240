-- What a table over slots means. Assumes nothing.
use Rattle.std.specs.Prelude.{ℕ, Bool, cond, ◌&&◌, is_some, Some, None, Option, List, nat_lt, slice_get}
use Rattle.std.specs.Option.{option_or}
use Rattle.slots.specs.Meaning.{has}
use Rattle.tables.specs.declared.SlotMap.{SlotMap}

-- what a list has at a place, if there is a list and such a place
abbrev pub kept : {X : Type 0} → Option (List X) → ℕ → Option X
kept None x = None
kept (Some vs) x = slice_get vs x

-- the value for a number, if there is one
unfoldable pub at : {X : Type 0} → SlotMap X → ℕ → Option X
at m x = cond (has m.slots x) (kept m.values x) None

-- what is done where a number is below a bound; where it is not, nothing is
abbrev pub below : {X : Type 0} → ℕ → ℕ → (X → X) → X → X
below n x f a = cond (nat_lt x n) (f a) a

-- the numbers that have a value
abbrev pub filled : {X : Type 0} → (ℕ → Option X) → ℕ → Bool
filled f x = is_some (f x)

-- the numbers that are in both of two sets
abbrev pub shared : (ℕ → Bool) → (ℕ → Bool) → ℕ → Bool
shared f g x = f x && g x

-- a value on the numbers of a set
abbrev pub marked : {X : Type 0} → (ℕ → Bool) → X → (ℕ → Option X) → ℕ → Option X
marked s v f x = cond (s x) (Some v) (f x)

-- no value on the numbers of a set
abbrev pub cleared : {X : Type 0} → (ℕ → Bool) → (ℕ → Option X) → ℕ → Option X
cleared s f x = cond (s x) None (f x)

-- the values of one function, and elsewhere those of another
abbrev pub overlaid : {X : Type 0} → (ℕ → Option X) → (ℕ → Option X) → ℕ → Option X
overlaid over f x = option_or (over x) (f x)
