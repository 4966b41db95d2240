-- Words added up plainly and low byte first give the one's complement sum, once the carries are added back and the bytes swapped. Assumes nothing.
use Rattle.std.proofs.Common.{◌≡◌, ℕ, zero, suc, ◌+◌, ◌-◌, ◌*◌, ◌/◌, ◌%◌, ◌<◌, ◌≤◌, Bool, true, false, cond, ltb, List, [], ◌∷◌, length, get_or, drop, fold, sym, refl, ap, ◌∙◌, ⊎_elim, arith}
use Rattle.std.specs.List.{sum_by}
use Rattle.std.specs.Simd.{first_chunks}
use Rattle.std.proofs.lemmas.List.{drop_more, drop_all}
use Rattle.std.proofs.lemmas.Bool.{cases_eq}
use Rattle.std.proofs.lemmas.Bool.Decides.{nat_tests}
use Rattle.block.specs.Check.{◌⊕◌, words, ones_sum, check}

-- a plain sum and the one's complement sum of the same words: equal but for multiples of 65535, and zero together
pub record Agree (plain ones : ℕ) : Type 0 where
  pub small : ones ≤ 65535
  pub times : ℕ
  pub apart : plain ≡ 65535 * times + ones
  pub zero_too : ones ≡ 0 → plain ≡ 0

pub agree_none : Agree 0 0
agree_none = record { small = omega arith; times = 0; apart = refl; zero_too = λ e. refl }

agree_step : (plain ones w : ℕ) (carry : Bool) → ltb (ones + w) 65536 ≡ carry → w < 65536 → Agree plain ones → Agree (plain + w) (cond carry (ones + w) (ones + w - 65535))
agree_step plain ones w true e h a = record { small = grind (arith, nat_tests); times = a.times; apart = omega arith; zero_too = λ z. omega (arith, a.zero_too (omega arith)) }
agree_step plain ones w false e h a =
    let big : 65536 ≤ ones + w = grind (arith, nat_tests) in
    record { small = omega arith; times = a.times + 1; apart = omega arith; zero_too = λ z. absurd (omega arith) }

-- one more word
pub agree_more : (plain ones w : ℕ) → w < 65536 → Agree plain ones → Agree (plain + w) (ones ⊕ w)
agree_more plain ones w h a = agree_step plain ones w (ltb (ones + w) 65536) refl h a

-- a plain sum agrees with one number alone
pub agree_same : (plain a b : ℕ) → Agree plain a → Agree plain b → a ≡ b
agree_same plain a b p q =
    ⊎_elim (λ e. omega (arith, p.zero_too e))
    (λ ne. ⊎_elim (λ e. omega (arith, q.zero_too e)) (λ me. omega arith) (cases_eq b 0)) (cases_eq a 0)

-- a word read low byte first is the word times 256, but for a multiple of 65535
pub agree_swapped : (plain ones high low : ℕ) → high < 256 → low < 256 → Agree (256 * plain) ones → Agree (256 * (plain + (high + low * 256))) (ones ⊕ (high * 256 + low))
agree_swapped plain ones high low h l a =
    let b = agree_more (256 * plain) ones (high * 256 + low) (omega arith) a in
    record { small = b.small; times = b.times + low; apart = omega arith; zero_too = λ z. omega (arith, b.zero_too z) }

-- two bytes swapped are 256 times as much, but for a multiple of 65535
swap_apart : (n : ℕ) → n < 65536 → 256 * n ≡ 65535 * (n / 256) + (n % 256 * 256 + n / 256 % 256)
swap_apart n h = omega arith

-- the carries added back twice, and the bytes swapped
pub agree_carried : (plain once twice : ℕ) → plain < 16777216 → once ≡ plain % 65536 + plain / 65536 → twice ≡ once % 65536 + once / 65536 → Agree (256 * plain) (twice % 256 * 256 + twice / 256 % 256)
agree_carried plain once twice h e f =
    let apart : plain ≡ 65535 * (plain / 65536 + once / 65536) + twice = omega arith in
    let swapped = swap_apart twice (omega arith) in
    record { small = omega arith; times = 256 * (plain / 65536 + once / 65536) + twice / 256; apart = omega arith; zero_too = λ z. omega arith }

-- the word in two bytes, low byte first
abbrev pub low_first : List ℕ → ℕ
low_first word = get_or word 0 0 + get_or word 1 0 * 256

-- the words added to what was summed up before
added : (n : ℕ) (bytes : List ℕ) (plain ones : ℕ) → length bytes ≡ 2 * n → ((k : ℕ) → get_or bytes k 0 < 256) → Agree (256 * plain) ones → Agree (256 * fold (λ sum word. sum + low_first word) plain (first_chunks 2 n bytes)) (fold ◌⊕◌ ones (words bytes))
unfolding words
added zero [] plain ones e small a = a
added (suc n) (high ∷ low ∷ bytes) plain ones e small a =
    added n bytes (plain + (high + low * 256)) (ones ⊕ (high * 256 + low)) (omega arith) (λ k. small (suc (suc k)))
    (agree_swapped plain ones high low (small 0) (small 1) a)
added zero (x ∷ bytes) plain ones e small a = absurd (omega arith)
added (suc n) [] plain ones e small a = absurd (omega arith)
added (suc n) (x ∷ []) plain ones e small a = absurd (omega arith)

-- and the sum is not large
added_le : (n : ℕ) (bytes : List ℕ) (plain : ℕ) → length bytes ≡ 2 * n → ((k : ℕ) → get_or bytes k 0 < 256) → fold (λ sum word. sum + low_first word) plain (first_chunks 2 n bytes) ≤ plain + 65535 * n
added_le zero bytes plain e small = omega arith
added_le (suc n) (high ∷ low ∷ bytes) plain e small =
    omega (arith, added_le n bytes (plain + (high + low * 256)) (omega arith) (λ k. small (suc (suc k))), small 0, small 1)
added_le (suc n) [] plain e small = absurd (omega arith)
added_le (suc n) (x ∷ []) plain e small = absurd (omega arith)

-- all words of 512 bytes or fewer
abbrev pub plain_sum : List ℕ → ℕ
plain_sum bytes = sum_by low_first (first_chunks 2 (length bytes / 2) bytes)

pub plain_small : (bytes : List ℕ) → length bytes ≤ 512 → length bytes % 2 ≡ 0 → ((k : ℕ) → get_or bytes k 0 < 256) → plain_sum bytes < 16777216
plain_small bytes few even small = omega (arith, added_le (length bytes / 2) bytes 0 (omega arith) small)

-- the carries added back, and the bytes swapped, they give the check
pub check_carried : (bytes : List ℕ) (once twice swapped : ℕ) → length bytes ≤ 512 → length bytes % 2 ≡ 0 → ((k : ℕ) → get_or bytes k 0 < 256) → once ≡ plain_sum bytes % 65536 + plain_sum bytes / 65536 → twice ≡ once % 65536 + once / 65536 → swapped ≡ twice % 256 * 256 + twice / 256 % 256 → 65535 - swapped ≡ check bytes
unfolding check ones_sum
check_carried bytes once twice swapped few even small e f g =
    ap (λ s. 65535 - s)
    (g ∙ agree_same (256 * plain_sum bytes) _ _ (agree_carried (plain_sum bytes) once twice (plain_small bytes few even small) e f) (added (length bytes / 2) bytes 0 0 (omega arith) small agree_none))

-- i words are added up, low byte first
pub record Added (bytes : List ℕ) (i plain : ℕ) : Type 0 where
  pub bounded : plain ≤ 65535 * i
  pub ones : ℕ
  pub agree : Agree (256 * plain) ones
  pub left : fold ◌⊕◌ ones (words (drop (2 * i) bytes)) ≡ ones_sum (words bytes)

pub added_none : (bytes : List ℕ) → Added bytes 0 0
unfolding ones_sum
added_none bytes = record { bounded = omega arith; ones = 0; agree = agree_none; left = refl }

two_more : (bytes : List ℕ) (i : ℕ) → 2 * i + 1 < length bytes → drop (2 * i) bytes ≡ get_or bytes (2 * i) 0 ∷ get_or bytes (2 * i + 1) 0 ∷ drop (2 * (i + 1)) bytes
two_more bytes i h =
    drop_more bytes (2 * i) 0 (omega arith) ∙ ap (λ bs. get_or bytes (2 * i) 0 ∷ bs) (drop_more bytes (2 * i + 1) 0 h)
    ∙ ap (λ m. get_or bytes (2 * i) 0 ∷ get_or bytes (2 * i + 1) 0 ∷ drop m bytes) (omega arith)

pub added_more : (bytes : List ℕ) (i plain w : ℕ) → 2 * i + 1 < length bytes → w ≡ get_or bytes (2 * i) 0 + get_or bytes (2 * i + 1) 0 * 256 → get_or bytes (2 * i) 0 < 256 → get_or bytes (2 * i + 1) 0 < 256 → Added bytes i plain → Added bytes (i + 1) (plain + w)
unfolding words
added_more bytes i plain w h e high low a = record {
  bounded = omega arith;
  ones = a.ones ⊕ (get_or bytes (2 * i) 0 * 256 + get_or bytes (2 * i + 1) 0);
  agree = rw e (agree_swapped plain a.ones (get_or bytes (2 * i) 0) (get_or bytes (2 * i + 1) 0) high low a.agree);
  left = ap (λ bs. fold ◌⊕◌ a.ones (words bs)) (sym (two_more bytes i h)) ∙ a.left;
}

-- all words added up, the carries added back, and the bytes swapped
pub added_all : (bytes : List ℕ) (i plain once twice swapped : ℕ) → length bytes ≤ 2 * i → i ≤ 256 → Added bytes i plain → once ≡ plain % 65536 + plain / 65536 → twice ≡ once % 65536 + once / 65536 → swapped ≡ twice % 256 * 256 + twice / 256 % 256 → 65535 - swapped ≡ check bytes
unfolding words check
added_all bytes i plain once twice swapped all few a e f g =
    ap (λ s. 65535 - s) (g ∙ agree_same (256 * plain) _ a.ones (agree_carried plain once twice (omega (arith, a.bounded)) e f) a.agree ∙ sym (ap (λ bs. fold ◌⊕◌ a.ones (words bs)) (drop_all (2 * i) bytes all)) ∙ a.left)
