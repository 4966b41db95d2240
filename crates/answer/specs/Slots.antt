-- How a set of slots is written. The bytes are 44 ',' and 45 '-'. Assumes nothing.
use Rattle.std.specs.Prelude.{ℕ, zero, suc, Bool, true, false, cond, List, [], ◌∷◌, ◌++◌, decimal}

-- whether something is written
abbrev pub some : List ℕ → Bool
some [] = false
some (b ∷ bs) = true

-- a slot, with a comma before it where one was written before
abbrev pub entry_text : Bool → ℕ → List ℕ
entry_text more n = cond more (44 ∷ decimal n) (decimal n)

-- the numbers below n that are in f, rising, with commas between them
unfoldable pub listed : ℕ → (ℕ → Bool) → List ℕ
listed zero f = []
listed (suc n) f = cond (f n) (listed n f ++ entry_text (some (listed n f)) n) (listed n f)

-- a hyphen where nothing is written
abbrev pub or_hyphen : List ℕ → List ℕ
or_hyphen [] = 45 ∷ []
or_hyphen (b ∷ bs) = b ∷ bs

-- the slots of a set
abbrev pub slots_text : (ℕ → Bool) → List ℕ
slots_text f = or_hyphen (listed 64 f)
