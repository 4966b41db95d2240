-- Which number a text writes in decimal. Assumes nothing.
use Rattle.std.specs.Prelude.{ℕ, ◌+◌, ◌-◌, ◌*◌, Bool, cond, not, ◌&&◌, ◌||◌, List, [], ◌∷◌, length, Some, None, Option, ◌==◌, nat_le, nat_lt, slice_index}
use Rattle.std.specs.Str.{all_ascii_digits}

-- the number that digits write behind the number n
abbrev pub value_after : ℕ → List ℕ → ℕ
value_after n [] = n
value_after n (d ∷ ds) = value_after (10 * n + (d - 48)) ds

-- not empty, and no zero with more behind it
abbrev pub well_led : List ℕ → Bool
well_led bs = length bs == 1 || (nat_lt 1 (length bs) && not (slice_index bs 0 == 48))

-- digits only, and the number that they write behind n is at most this
abbrev pub number_after : ℕ → ℕ → List ℕ → Option ℕ
number_after most n bs = cond (all_ascii_digits bs && nat_le (value_after n bs) most) (Some (value_after n bs)) None

-- digits only, at least one, no leading zero, and a value of at most this
abbrev pub number_of : ℕ → List ℕ → Option ℕ
number_of most bs = cond (well_led bs) (number_after most 0 bs) None
