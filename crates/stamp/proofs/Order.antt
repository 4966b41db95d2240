-- The order of keys is strict, and of two different keys one is before the other. Assumes nothing.
use Rattle.std.proofs.Common.{◌≡◌, true, false, ◌⊎◌, inl, inr, ⊎_elim, arith}
use Rattle.std.proofs.lemmas.Bool.{cases_order}
use Rattle.std.proofs.lemmas.Bool.Decides.{nat_tests}
use Rattle.stamp.specs.declared.Key.{Key}
use Rattle.stamp.specs.Order.{key_before}

-- no key is before itself
pub before_not_same : (a : Key) → key_before a a ≡ false
before_not_same a = grind (arith, nat_tests)

pub before_trans : (a b c : Key) → key_before a b ≡ true → key_before b c ≡ true → key_before a c ≡ true
before_trans a b c p q = grind (arith, nat_tests)

pub before_not_after : (a b : Key) → key_before a b ≡ true → key_before b a ≡ false
before_not_after a b p = grind (arith, nat_tests)

-- keys with equal numbers are equal
pub same_key : (a b : Key) → a.first ≡ b.first → a.second ≡ b.second → a ≡ b
same_key a b p q = λ i. record { first = p i; second = q i }

-- one of two keys is before the other, or they are equal
pub before_cases : (a b : Key) → (key_before a b ≡ true) ⊎ ((a ≡ b) ⊎ (key_before b a ≡ true))
before_cases a b = ⊎_elim
    (λ e. ⊎_elim (λ s. inr (inl (same_key a b e s))) (λ o. ⊎_elim (λ l. inl (grind (arith, nat_tests))) (λ l. inr (inr (grind (arith, nat_tests)))) o) (cases_order a.second b.second))
    (λ o. ⊎_elim (λ l. inl (grind (arith, nat_tests))) (λ l. inr (inr (grind (arith, nat_tests)))) o)
    (cases_order a.first b.first)

-- of two different keys one is before the other
pub before_total : (a b : Key) → (a ≡ b → ⊥) → (key_before a b ≡ true) ⊎ (key_before b a ≡ true)
before_total a b ne = ⊎_elim inl (⊎_elim (λ e. absurd (ne e)) inr) (before_cases a b)

-- what is not after is in order, too
pub not_before_trans : (a b c : Key) → key_before b a ≡ false → key_before c b ≡ false → key_before c a ≡ false
not_before_trans a b c p q = grind (arith, nat_tests)
