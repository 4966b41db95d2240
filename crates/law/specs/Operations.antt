-- Operations on a list of entries, and what it means to carry them out one after another. Assumes nothing.
-- Lists of operations have the latest in front, here and everywhere in this crate.
use Rattle.std.specs.Prelude.{◌≡◌, ℕ, ◌<◌, Bool, false, cond, ◌||◌, List, [], ◌∷◌, length, is_some, Some, None, Option, ◌==◌, slice_set}
use Rattle.std.specs.List.{slice_get}

-- a slot was read and this rule answered, or this rule was written into a slot
pub data Operation (R : Type 0) : Type 0 where
  reading : (slot : ℕ) → (rule : R) → Operation R
  writing : (slot : ℕ) → (rule : R) → Operation R

-- carrying out the operations turns the list `first` into the list `last`, and every reading is right:
-- a reading answers what its slot holds then, and a writing sets its slot, which is inside the list, and no other.
-- An entry is a rule or something else (a damage); `intact` says which entry a rule is
pub data Serial {R E : Type 0} (intact : R → E) (first : List E) : List (Operation R) → List E → Type 0 where
  nothing : Serial intact first [] first
  then_reading : {ops : List (Operation R)} {last : List E} (x : ℕ) (r : R)
      → Serial intact first ops last → slice_get last x ≡ Some (intact r)
      → Serial intact first (reading x r ∷ ops) last
  then_writing : {ops : List (Operation R)} {before last : List E} (x : ℕ) (r : R)
      → Serial intact first ops before → x < length before → last ≡ slice_set before x (intact r)
      → Serial intact first (writing x r ∷ ops) last

module _ {R : Type 0} where
  -- the rule of the latest writing of a slot
  abbrev pub latest : List (Operation R) → ℕ → Option R
  latest [] x = None
  latest (reading y r ∷ ops) x = latest ops x
  latest (writing y r ∷ ops) x = cond (x == y) (Some r) (latest ops x)

  -- is the slot written
  abbrev pub wrote : List (Operation R) → ℕ → Bool
  wrote ops x = is_some (latest ops x)

  -- is the slot read
  abbrev pub has_read : List (Operation R) → ℕ → Bool
  has_read [] x = false
  has_read (reading y r ∷ ops) x = x == y || has_read ops x
  has_read (writing y r ∷ ops) x = has_read ops x

  -- is the slot read or written
  abbrev pub touched : List (Operation R) → ℕ → Bool
  touched ops x = has_read ops x || wrote ops x
