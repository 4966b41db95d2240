-- The bits of a word. Assumes nothing.
use Rattle.std.proofs.Common.{◌≡◌, ℕ, zero, suc, ◌+◌, ◌-◌, ◌/◌, ◌%◌, ◌^◌, ◌<◌, min, max, Bool, true, false, cond, not, ◌&&◌, ◌||◌, eqb, sym, refl, ap, ◌∙◌, ap₂, ⊎_elim, pow-suc, arith}
use lib.Bits.{bit_and, bit_or, and_step, or_step}
use lib.Count.{ones, ones_step, count_trailing_zeros, under}
use Rattle.std.proofs.lemmas.Bool.{eqb-true, eqb-false, eq-eqb, ne_eqb, cases_Bool}
use Rattle.std.proofs.lemmas.Bool.Decides.{nat_tests}
use Rattle.slots.specs.Sets.{tally_below}
use Rattle.slots.specs.Meaning.{bit}

-- a bit as a number below two
odd_or : (p q : ℕ) → p < 2 → q < 2 → eqb (max p q) 1 ≡ (eqb p 1 || eqb q 1)
odd_or zero zero _ _ = refl
odd_or zero (suc zero) _ _ = refl
odd_or (suc zero) zero _ _ = refl
odd_or (suc zero) (suc zero) _ _ = refl
odd_or (suc (suc p)) q h _ = absurd (omega arith)
odd_or zero (suc (suc q)) _ h = absurd (omega arith)
odd_or (suc zero) (suc (suc q)) _ h = absurd (omega arith)

odd_and : (p q : ℕ) → p < 2 → q < 2 → eqb (min p q) 1 ≡ (eqb p 1 && eqb q 1)
odd_and zero zero _ _ = refl
odd_and zero (suc zero) _ _ = refl
odd_and (suc zero) zero _ _ = refl
odd_and (suc zero) (suc zero) _ _ = refl
odd_and (suc (suc p)) q h _ = absurd (omega arith)
odd_and zero (suc (suc q)) _ h = absurd (omega arith)
odd_and (suc zero) (suc (suc q)) _ h = absurd (omega arith)

odd_not : (p q : ℕ) → p + q ≡ 1 → eqb q 1 ≡ not (eqb p 1)
odd_not zero q h = eq-eqb q 1 (omega arith)
odd_not (suc zero) q h = ne_eqb q 1 (λ e. omega arith)
odd_not (suc (suc p)) q h = absurd (omega arith)

-- the lowest bit and the rest
or_low : (a b : ℕ) → bit_or a b % 2 ≡ max (a % 2) (b % 2)
or_low a b = omega (arith, or_step a b)

or_rest : (a b : ℕ) → bit_or a b / 2 ≡ bit_or (a / 2) (b / 2)
or_rest a b = omega (arith, or_step a b)

and_low : (a b : ℕ) → bit_and a b % 2 ≡ min (a % 2) (b % 2)
and_low a b = omega (arith, and_step a b)

and_rest : (a b : ℕ) → bit_and a b / 2 ≡ bit_and (a / 2) (b / 2)
and_rest a b = omega (arith, and_step a b)

pub bit_at_or : (x a b : ℕ) → bit (bit_or a b) x ≡ (bit a x || bit b x)
unfolding bit
bit_at_or zero a b = ap (λ n. eqb n 1) (or_low a b) ∙ odd_or (a % 2) (b % 2) (omega arith) (omega arith)
bit_at_or (suc x) a b = ap (λ n. bit n x) (or_rest a b) ∙ bit_at_or x (a / 2) (b / 2)

pub bit_at_and : (x a b : ℕ) → bit (bit_and a b) x ≡ (bit a x && bit b x)
unfolding bit
bit_at_and zero a b = ap (λ n. eqb n 1) (and_low a b) ∙ odd_and (a % 2) (b % 2) (omega arith) (omega arith)
bit_at_and (suc x) a b = ap (λ n. bit n x) (and_rest a b) ∙ bit_at_and x (a / 2) (b / 2)

-- every bit of a word of k bits turned
pub bit_not : (k w x : ℕ) → w < 2 ^ k → x < k → bit (2 ^ k - 1 - w) x ≡ not (bit w x)
unfolding bit
bit_not zero w x h l = absurd (omega arith)
bit_not (suc k) w zero h l = odd_not (w % 2) ((2 ^ suc k - 1 - w) % 2) (omega (arith, pow-suc 2 k))
bit_not (suc k) w (suc x) h l =
    let rest : (2 ^ suc k - 1 - w) / 2 ≡ 2 ^ k - 1 - w / 2 = omega (arith, pow-suc 2 k) in
    ap (λ n. bit n x) rest ∙ bit_not k (w / 2) x (omega (arith, pow-suc 2 k)) (omega arith)

pub bit_zero : (x : ℕ) → bit 0 x ≡ false
unfolding bit
bit_zero zero = refl
bit_zero (suc x) = bit_zero x

-- the word with one bit
pub bit_one : (k x : ℕ) → bit (2 ^ k) x ≡ eqb x k
unfolding bit
bit_one zero zero = refl
bit_one zero (suc x) = bit_zero x ∙ sym (ne_eqb (suc x) 0 (λ e. omega arith))
bit_one (suc k) zero =
    let even : 2 ^ suc k % 2 ≡ 0 = omega (arith, pow-suc 2 k) in
    ap (λ n. eqb n 1) even ∙ sym (ne_eqb 0 (suc k) (λ e. omega arith))
bit_one (suc k) (suc x) =
    let rest : 2 ^ suc k / 2 ≡ 2 ^ k = omega (arith, pow-suc 2 k) in
    let same : eqb x k ≡ eqb (suc x) (suc k) = grind (arith, nat_tests) in
    ap (λ n. bit n x) rest ∙ bit_one k x ∙ same

-- two words of k bits with the same bits are equal
pub same_bits : (k a b : ℕ) → a < 2 ^ k → b < 2 ^ k → ((x : ℕ) → x < k → bit a x ≡ bit b x) → a ≡ b
unfolding bit
same_bits zero a b p q h = omega arith
same_bits (suc k) a b p q h =
    let rest = same_bits k (a / 2) (b / 2) (omega (arith, pow-suc 2 k)) (omega (arith, pow-suc 2 k)) (λ x l. h (suc x) (omega arith)) in
    let low = h 0 (omega arith) in
    ⊎_elim (λ e. omega (arith, rest, eqb-true (a % 2) 1 e, eqb-true (b % 2) 1 (sym low ∙ e)))
    (λ e. let p : a % 2 ≡ 1 → ⊥ = eqb-false (a % 2) 1 e in let q : b % 2 ≡ 1 → ⊥ = eqb-false (b % 2) 1 (sym low ∙ e) in omega (arith, rest))
    (cases_Bool (eqb (a % 2) 1))

-- ---- the zeros below the lowest bit

under_odd : (d t : ℕ) → d ≡ 1 → under d t ≡ 0
under_odd zero t e = absurd (omega arith)
under_odd (suc d) t e = refl

under_even : (d t : ℕ) → d ≡ 0 → under d t ≡ suc t
under_even zero t e = refl
under_even (suc d) t e = absurd (omega arith)

trailing_odd : (k w : ℕ) → w % 2 ≡ 1 → count_trailing_zeros (suc k) w ≡ 0
unfolding count_trailing_zeros
trailing_odd k w e = under_odd (w % 2) (count_trailing_zeros k (w / 2)) e

trailing_even : (k w : ℕ) → w % 2 ≡ 0 → count_trailing_zeros (suc k) w ≡ suc (count_trailing_zeros k (w / 2))
unfolding count_trailing_zeros
trailing_even k w e = under_even (w % 2) (count_trailing_zeros k (w / 2)) e

-- the lowest bit as a number
low_set : (w : ℕ) → bit w 0 ≡ true → w % 2 ≡ 1
unfolding bit
low_set w e = eqb-true (w % 2) 1 e

low_clear : (w : ℕ) → bit w 0 ≡ false → w % 2 ≡ 0
unfolding bit
low_clear w e = let ne : w % 2 ≡ 1 → ⊥ = eqb-false (w % 2) 1 e in omega arith

-- no bit is set below them
pub trailing_below : (k w y : ℕ) → y < count_trailing_zeros k w → bit w y ≡ false
unfolding bit count_trailing_zeros
trailing_below zero w y h = absurd (omega arith)
trailing_below (suc k) w y h = ⊎_elim
    (λ e. absurd (omega (arith, trailing_odd k w (low_set w e))))
    (λ e. at y (omega (arith, trailing_even k w (low_clear w e))) e (λ x. trailing_below k (w / 2) x))
    (cases_Bool (bit w 0))
  where
    at : (y : ℕ) → y < suc (count_trailing_zeros k (w / 2)) → bit w 0 ≡ false → ((x : ℕ) → x < count_trailing_zeros k (w / 2) → bit (w / 2) x ≡ false) → bit w y ≡ false
    at zero l e rest = e
    at (suc x) l e rest = rest x (omega arith)

-- the bit above them is set
pub trailing_at : (k w : ℕ) → count_trailing_zeros k w < k → bit w (count_trailing_zeros k w) ≡ true
unfolding bit
trailing_at zero w h = absurd (omega arith)
trailing_at (suc k) w h = ⊎_elim
    (λ e. ap (bit w) (trailing_odd k w (low_set w e)) ∙ e)
    (λ e. let t = trailing_even k w (low_clear w e) in ap (bit w) t ∙ trailing_at k (w / 2) (omega (arith, t)))
    (cases_Bool (bit w 0))

-- ---- how many bits are set

-- the number below suc k is the lowest and what is above it
tally_shift : (k : ℕ) (f : ℕ → Bool) → tally_below (suc k) f ≡ cond (f 0) 1 0 + tally_below k (λ x. f (suc x))
unfolding tally_below
tally_shift zero f = omega arith
tally_shift (suc k) f = let rest = tally_shift k f in omega (arith, rest)

low_number : (w : ℕ) → ◌≡◌ {A = ℕ} (cond (bit w 0) 1 0) (w % 2)
low_number w = ⊎_elim (λ e. ap (λ b. cond b 1 0) e ∙ sym (low_set w e)) (λ e. ap (λ b. cond b 1 0) e ∙ sym (low_clear w e)) (cases_Bool (bit w 0))

pub tally_ones : (k w : ℕ) → w < 2 ^ k → tally_below k (bit w) ≡ ones w
unfolding bit tally_below ones
tally_ones zero w h = let z : w ≡ 0 = omega arith in sym (ap ones z)
tally_ones (suc k) w h =
    let rest = tally_ones k (w / 2) (omega (arith, pow-suc 2 k)) in
    tally_shift k (bit w) ∙ ap₂ (λ a b. a + b) (low_number w) rest ∙ sym (ones_step w)
