-- Changes with their stamps, and when two of them clash. Assumes nothing.
use Rattle.std.specs.Prelude.{◌≡◌, ℕ, Bool, true, not, ◌&&◌, ◌||◌, List, is_some, filter, Option, ◌==◌, nat_lt}
use Rattle.std.specs.List.{flat_map}
use Rattle.law.specs.Operations.{Operation, Serial, wrote, touched}

-- the key of a stamp
pub record Key : Type 0 where
  pub major : ℕ
  pub minor : ℕ

-- one key is before another: first numbers are compared first
abbrev pub earlier : Key → Key → Bool
earlier k l = nat_lt k.major l.major || (k.major == l.major && nat_lt k.minor l.minor)

-- two keys are the same
abbrev pub same_key : Key → Key → Bool
same_key k l = k.major == l.major && k.minor == l.minor

-- an accepted change: who made it, under which stamp, at which place of the history it began,
-- what it did, and at which place it was committed, if it was
pub record Change (R : Type 0) : Type 0 where
  pub session : ℕ
  pub key : Key
  pub began : ℕ
  pub ops : List (Operation R)
  pub committed : Option ℕ

module _ {R : Type 0} where
  -- not committed yet
  abbrev pub pending : Change R → Bool
  pending c = not (is_some c.committed)

  -- two changes clash at a slot: both touch it, and one of them writes it
  abbrev pub clash_at : Change R → Change R → ℕ → Bool
  clash_at a b x = (wrote a.ops x && touched b.ops x) || (touched a.ops x && wrote b.ops x)

  -- two changes clash: they do so at some slot
  abbrev pub Clash : Change R → Change R → Type 0
  Clash a b = (x : ℕ) × (clash_at a b x ≡ true)

  -- the committed ones of a list of changes, in the same order
  abbrev pub committed_of : List (Change R) → List (Change R)
  committed_of cs = filter (λ c. is_some c.committed) cs

-- taking the changes one at a time, in the order of the list, turns `first` into `last`, and every reading in them is right.
-- Lists of changes have the latest in front
abbrev pub Explains : {R E : Type 0} → (R → E) → List E → List (Change R) → List E → Type 0
Explains intact first changes last = Serial intact first (flat_map (λ c. c.ops) changes) last
