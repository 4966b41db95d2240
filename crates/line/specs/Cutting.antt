-- How a line is cut into fields with their places. Assumes nothing.
use Rattle.std.specs.Prelude.{ℕ, ◌+◌, Bool, true, false, cond, List, [], ◌∷◌, length, take, Some, None, Ok, Err, Option, Result, nat_lt}
use Rattle.rule.specs.Reading.{fields}
use Rattle.refusal.specs.declared.Refusal.{Refusal}
use Rattle.refusal.specs.declared.Refusal.TheVariants.{Unreadable}
use Rattle.line.specs.declared.cutting.Field.{Field}
use Rattle.line.specs.declared.cutting.Line.{Line}
use Rattle.line.specs.declared.cutting.Line.TheVariants.{Empty, One, Two, Three, Four, Five, Six, More, TooLong}

-- each field with the place of its first byte; the first begins at this place
abbrev pub placed : ℕ → List (List ℕ) → List (ℕ × List ℕ)
placed at [] = []
placed at (f ∷ fs) = (at, f) ∷ placed (at + length f + 1) fs

-- the fields of a part of a line
abbrev pub fields_in : ℕ × List ℕ → List (ℕ × List ℕ)
fields_in p = placed p.0 (fields p.1)

-- the place and the bytes of a part
abbrev pub told : Field → ℕ × List ℕ
told f = (f.at, f.bytes.now)

abbrev pub fields_behind : Option Field → List (ℕ × List ℕ)
fields_behind None = []
fields_behind (Some rest) = fields_in (told rest)

-- the fields that a cut line holds
abbrev pub parts : Line → List (ℕ × List ℕ)
parts Empty = []
parts (One a) = told a ∷ []
parts (Two a b) = told a ∷ told b ∷ []
parts (Three a b c) = told a ∷ told b ∷ told c ∷ []
parts (Four a b c d) = told a ∷ told b ∷ told c ∷ told d ∷ []
parts (Five a b c d e) = told a ∷ told b ∷ told c ∷ told d ∷ told e ∷ []
parts (Six a b c d e f) = told a ∷ told b ∷ told c ∷ told d ∷ told e ∷ told f ∷ []
parts (More a b c d e f g) = told a ∷ told b ∷ told c ∷ told d ∷ told e ∷ told f ∷ told g ∷ []
parts TooLong = []

-- the fields that are read of a line: all up to the seventh, which is one too many
abbrev pub cut_of : List ℕ → List (ℕ × List ℕ)
cut_of bs = cond (nat_lt 80 (length bs)) [] (take 7 (placed 0 (fields bs)))

abbrev pub is_too_long : Line → Bool
is_too_long Empty = false
is_too_long (One a) = false
is_too_long (Two a b) = false
is_too_long (Three a b c) = false
is_too_long (Four a b c d) = false
is_too_long (Five a b c d e) = false
is_too_long (Six a b c d e f) = false
is_too_long (More a b c d e f g) = false
is_too_long TooLong = true

-- the same fields; a line over 80 bytes is refused at 80
abbrev pub fields_or_refusal : List ℕ → Result (List (ℕ × List ℕ)) Refusal
fields_or_refusal bs = cond (nat_lt 80 (length bs)) (Err (Unreadable 80)) (Ok (take 7 (placed 0 (fields bs))))

abbrev pub rest_of : List (ℕ × List ℕ) → List (ℕ × List ℕ)
rest_of [] = []
rest_of (f ∷ fs) = fs
