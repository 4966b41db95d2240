-- An octet is a number of at most 255. Assumes nothing.
use Rattle.std.proofs.Common.{◌≡◌, ℕ, ◌+◌, ◌-◌, ◌*◌, List, [], ◌∷◌, refl, ⊎_elim, arith}
use Rattle.std.proofs.lemmas.Bool.{cases_eq}
use Rattle.std.proofs.lemmas.Bool.Decides.{nat_tests}
use Rattle.text.specs.Numbers.{number_of}
use Rattle.text.specs.Octets.{octet_of}
use Rattle.text.proofs.Decimal.{value_grows}

-- an octet has at most three digits, as four without a leading zero are 1000 at least
pub octet_number : (bs : List ℕ) → octet_of bs ≡ number_of 255 bs
octet_number [] = refl
octet_number (a ∷ []) = grind (arith, nat_tests)
octet_number (a ∷ b ∷ []) = grind (arith, nat_tests)
octet_number (a ∷ b ∷ c ∷ []) =
    ⊎_elim (λ (one : a ≡ 49). grind (arith, nat_tests)) (λ other. ⊎_elim (λ (two : a ≡ 50). grind (arith, nat_tests)) (λ no_two. grind (arith, nat_tests)) (cases_eq a 50)) (cases_eq a 49)
octet_number (a ∷ b ∷ c ∷ d ∷ ds) =
    let grows = value_grows (10 * (10 * (10 * (10 * 0 + (a - 48)) + (b - 48)) + (c - 48)) + (d - 48)) ds in grind (arith, nat_tests)
