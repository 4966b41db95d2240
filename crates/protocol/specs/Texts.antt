-- The text of a call: its letter and its fields, with single spaces. Assumes nothing.
use Rattle.std.specs.Prelude.{ℕ, ◌^◌, ◌<◌, List, ◌∷◌, ◌++◌, codes, decimal}
use Rattle.rule.specs.Text.{text}
use Rattle.protocol.specs.declared.Call.{Call}
use Rattle.protocol.specs.declared.Call.TheVariants.{Begin, Fetch, Read, Write, Drop, Forward, Commit, Abort, Learn, Receipt, Truncate}

-- stamps are written as their kind writes them
abbrev pub call_text : {S : Type 0} → (S → List ℕ) → Call S → List ℕ
call_text stamp (Begin s) = codes "b " ++ decimal s
call_text stamp (Fetch s n) = codes "f " ++ (decimal s ++ (32 ∷ decimal n))
call_text stamp (Read s n) = codes "r " ++ (decimal s ++ (32 ∷ decimal n))
call_text stamp (Write s n r) = codes "w " ++ (decimal s ++ (32 ∷ decimal n ++ (32 ∷ text r)))
call_text stamp (Drop s n) = codes "d " ++ (decimal s ++ (32 ∷ decimal n))
call_text stamp (Forward s x) = codes "p " ++ (decimal s ++ (32 ∷ stamp x))
call_text stamp (Commit s) = codes "c " ++ decimal s
call_text stamp (Abort s) = codes "a " ++ decimal s
call_text stamp (Learn s) = codes "l " ++ decimal s
call_text stamp (Receipt s n) = codes "k " ++ (decimal s ++ (32 ∷ decimal n))
call_text stamp (Truncate x) = codes "t " ++ stamp x

-- the numbers of a call have 32 bits, as those of every value do
abbrev pub Fits : {S : Type 0} → Call S → Type 0
Fits (Begin s) = s < 2 ^ 32
Fits (Fetch s n) = (s < 2 ^ 32) × (n < 2 ^ 32)
Fits (Read s n) = (s < 2 ^ 32) × (n < 2 ^ 32)
Fits (Write s n r) = (s < 2 ^ 32) × (n < 2 ^ 32)
Fits (Drop s n) = (s < 2 ^ 32) × (n < 2 ^ 32)
Fits (Forward s x) = s < 2 ^ 32
Fits (Commit s) = s < 2 ^ 32
Fits (Abort s) = s < 2 ^ 32
Fits (Learn s) = s < 2 ^ 32
Fits (Receipt s n) = (s < 2 ^ 32) × (n < 2 ^ 32)
Fits (Truncate x) = Unit {0}
