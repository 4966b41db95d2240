-- The dec-octet of RFC 3986: 0 to 255 in decimal, by the ranges of its digits. Assumes nothing.
use Rattle.std.specs.Prelude.{ℕ, ◌+◌, ◌-◌, ◌*◌, cond, ◌&&◌, List, [], ◌∷◌, Some, None, Option, ◌==◌}
use Rattle.std.specs.Int.{is_in_range}
use Rattle.std.specs.Char.{is_ascii_digit}

-- DIGIT
abbrev pub one_digit : ℕ → Option ℕ
one_digit a = cond (is_ascii_digit a) (Some (a - 48)) None

-- 1-9 DIGIT
abbrev pub two_digits : ℕ → ℕ → Option ℕ
two_digits a b = cond (is_in_range 49 57 a && is_ascii_digit b) (Some (10 * (a - 48) + (b - 48))) None

-- 1 DIGIT DIGIT, or 2 0-4 DIGIT, or 2 5 0-5
abbrev pub three_digits : ℕ → ℕ → ℕ → Option ℕ
three_digits a b c =
    cond (a == 49 && (is_ascii_digit b && is_ascii_digit c)) (Some (100 + 10 * (b - 48) + (c - 48)))
    (cond (a == 50 && (is_in_range 48 52 b && is_ascii_digit c)) (Some (200 + 10 * (b - 48) + (c - 48)))
    (cond (a == 50 && (b == 53 && is_in_range 48 53 c)) (Some (250 + (c - 48))) None))

abbrev pub octet_of : List ℕ → Option ℕ
octet_of [] = None
octet_of (a ∷ []) = one_digit a
octet_of (a ∷ b ∷ []) = two_digits a b
octet_of (a ∷ b ∷ c ∷ []) = three_digits a b c
octet_of (a ∷ b ∷ c ∷ d ∷ ds) = None
