-- The slots of a set, one after another, from the lowest on. Assumes nothing.
use Rattle.std.specs.Prelude.{◌≡◌, ℕ, Bool, Option, MatchOption}
use Rattle.slots.specs.declared.iter.Slots.{Slots}
use Rattle.slots.specs.Sets.{none, removed, Lowest}
use Rattle.slots.specs.Meaning.{has}

-- the slots that are still to come
abbrev pub left : Slots → ℕ → Bool
left s = has s.rest

-- the lowest slot came, and the others are left; where nothing came, none was left
abbrev pub GivesLowest : Slots → Option ℕ → Slots → Type 0
GivesLowest s r t = MatchOption r ((left s ≡ none) × (left t ≡ none)) (λ x. Lowest (left s) x × (left t ≡ removed (left s) x))
