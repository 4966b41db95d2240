-- Sets of slots: a slot is a number below 64, and a set tells of every number whether it is in. Assumes nothing.
use Rattle.std.specs.Prelude.{◌≡◌, ℕ, zero, suc, ◌+◌, ◌<◌, Bool, true, false, cond, not, ◌&&◌, ◌||◌, Some, None, Option, ◌==◌, nat_lt}

-- no slot
abbrev pub none : ℕ → Bool
none y = false

-- the slot x alone; nothing, where x is no slot
abbrev pub alone : ℕ → ℕ → Bool
alone x y = y == x && nat_lt x 64

-- what is in f or in g
abbrev pub either : (ℕ → Bool) → (ℕ → Bool) → ℕ → Bool
either f g y = f y || g y

-- what is in f and in g
abbrev pub both : (ℕ → Bool) → (ℕ → Bool) → ℕ → Bool
both f g y = f y && g y

-- what is in f and not in g
abbrev pub without : (ℕ → Bool) → (ℕ → Bool) → ℕ → Bool
without f g y = f y && not (g y)

-- f and the slot x
abbrev pub inserted : (ℕ → Bool) → ℕ → ℕ → Bool
inserted f x = either f (alone x)

-- f but for the slot x
abbrev pub removed : (ℕ → Bool) → ℕ → ℕ → Bool
removed f x = without f (alone x)

-- whether a number below n is in f
unfoldable pub any_below : ℕ → (ℕ → Bool) → Bool
any_below zero f = false
any_below (suc n) f = any_below n f || f n

-- how many numbers below n are in f
unfoldable pub tally_below : ℕ → (ℕ → Bool) → ℕ
tally_below zero f = 0
tally_below (suc n) f = tally_below n f + cond (f n) 1 0

-- what was found, or else x where it is in f
abbrev pub or_else : Option ℕ → ℕ → Bool → Option ℕ
or_else (Some y) x b = Some y
or_else None x true = Some x
or_else None x false = None

-- the least number below n that is in f
unfoldable pub least_below : ℕ → (ℕ → Bool) → Option ℕ
least_below zero f = None
least_below (suc n) f = or_else (least_below n f) n (f n)

-- the same of all slots
abbrev pub any : (ℕ → Bool) → Bool
any f = any_below 64 f

abbrev pub tally : (ℕ → Bool) → ℕ
tally f = tally_below 64 f

abbrev pub least : (ℕ → Bool) → Option ℕ
least f = least_below 64 f

-- whether some slot is in both
abbrev pub meet : (ℕ → Bool) → (ℕ → Bool) → Bool
meet f g = any (both f g)

-- x is the lowest slot of f
pub record Lowest (f : ℕ → Bool) (x : ℕ) : Type 0 where
  pub inside : x < 64
  pub member : f x ≡ true
  pub first : (y : ℕ) → y < x → f y ≡ false

-- some slot is in both
pub record Meeting (f g : ℕ → Bool) : Type 0 where
  pub slot : ℕ
  pub inside : slot < 64
  pub one : f slot ≡ true
  pub other : g slot ≡ true
