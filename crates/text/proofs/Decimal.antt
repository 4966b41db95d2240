-- A number within the limit is what its decimal text reads as, and no other text reads as it. Assumes nothing.
use Rattle.std.proofs.Common.{◌≡◌, ℕ, ◌+◌, ◌-◌, ◌*◌, ◌^◌, ◌<◌, ◌≤◌, true, cond, ◌&&◌, leb, List, [], ◌∷◌, ◌++◌, length, get_or, drop, IfSome, Some, None, decimal, Option, sym, refl, ap, ◌∙◌, ⊎_elim, arith, rules}
use Rattle.std.specs.Int.{IsInRange}
use Rattle.std.specs.Char.{is_ascii_digit}
use Rattle.std.specs.Str.{all_ascii_digits}
use Rattle.std.proofs.lemmas.Fmt.{decimal_digit, decimal_nonempty, first_decimal, digits_decimal, digits_value-decimal, decimal-digits_value}
use Rattle.std.proofs.lemmas.List.{at_drop_more, at_drop_all}
use Rattle.std.proofs.lemmas.Str.Parse.{IsNumeralModel, numerals_by_fold, not_in_digits}
use Rattle.std.proofs.lemmas.Bool.{and_parts, and_from, leb-true, le-leb, cases_lt, cond-true}
use Rattle.std.proofs.lemmas.Bool.Decides.{nat_tests}
use Rattle.std.proofs.lemmas.Option.{cond_some}
use Rattle.text.specs.Numbers.{value_after, well_led, number_after, number_of}
use Rattle.text.proofs.Cuts.{Lacks, lacks_from, lacks_append}

own : IsNumeralModel (λ ds. all_ascii_digits ds ≡ true) (value_after 0)
own = numerals_by_fold _ (search rules) value_after (search rules)

pub value_grows : (n : ℕ) (ds : List ℕ) → n ≤ value_after n ds
value_grows n [] = omega arith
value_grows n (d ∷ ds) = omega (arith, value_grows (10 * n + (d - 48)) ds)

-- one digit read, the rest goes on behind it
after_more : (most n b m : ℕ) (bs : List ℕ) → Some m ≡ number_after most n (b ∷ []) → (number_after most n (b ∷ bs) ≡ number_after most m bs) × (m ≤ most)
after_more most n b m bs e =
    let k : ℕ = 10 * n + (b - 48) in
    let h = cond_some ((is_ascii_digit b && true) && leb k most) k m (sym e) in
    let p = and_parts (is_ascii_digit b && true) (leb k most) h.0 in
    let q = and_parts (is_ascii_digit b) true p.0 in
    let le = leb-true k most p.1 in
    (ap (λ t. cond ((t && all_ascii_digits bs) && leb (value_after k bs) most) (Some (value_after k bs)) None) q.0 ∙ ap (λ v. number_after most v bs) h.1, omega (arith, h.1))

-- a byte that is no digit, or one digit too many, ends it
after_none : (most n b : ℕ) (bs : List ℕ) → None ≡ number_after most n (b ∷ []) → number_after most n (b ∷ bs) ≡ None
after_none most n b bs e = let grows = value_grows (10 * n + (b - 48)) bs in grind (arith, nat_tests)

-- n is the number of the first i digits, and what is left gives the rest of the number
pub record Read (most : ℕ) (bs : List ℕ) (i n : ℕ) : Type 0 where
  pub rest : number_after most n (drop i bs) ≡ number_after most 0 bs
  pub small : n ≤ most

pub read_none : (most : ℕ) (bs : List ℕ) → Read most bs 0 0
read_none most bs = record { rest = refl; small = omega arith }

pub read_more : (most : ℕ) (bs : List ℕ) (i n m : ℕ) → Read most bs i n → i < length bs → Some m ≡ number_after most n (get_or bs i 0 ∷ []) → Read most bs (i + 1) m
read_more most bs i n m h lt e =
    let step = after_more most n (get_or bs i 0) m (drop (i + 1) bs) e in
    record { rest = sym step.0 ∙ sym (at_drop_more (number_after most n) bs i 0 lt) ∙ h.rest; small = step.1 }

pub read_stop : (most : ℕ) (bs : List ℕ) (i n : ℕ) → Read most bs i n → i < length bs → None ≡ number_after most n (get_or bs i 0 ∷ []) → None ≡ number_after most 0 bs
read_stop most bs i n h lt e = sym (after_none most n (get_or bs i 0) (drop (i + 1) bs) e) ∙ sym (at_drop_more (number_after most n) bs i 0 lt) ∙ h.rest

pub read_all : (most : ℕ) (bs : List ℕ) (i n : ℕ) → Read most bs i n → length bs ≤ i → Some n ≡ number_after most 0 bs
read_all most bs i n h le = sym (cond-true (leb n most) (Some n) None (le-leb n most h.small)) ∙ sym (at_drop_all (number_after most n) bs i le) ∙ h.rest

well_led_decimal : (n : ℕ) → n < 2 ^ 64 → well_led (decimal n) ≡ true
well_led_decimal n h =
    let some = decimal_nonempty n h in
    ⊎_elim
    (λ (p : 0 < n). let first = first_decimal n p h in grind (arith, nat_tests))
    (λ (z : n ≤ 0). let short = ap length (decimal_digit n (omega arith)) in grind (arith, nat_tests))
    (cases_lt 0 n)

-- the text of a number reads as that number
pub number_decimal : (most n : ℕ) → n ≤ most → n < 2 ^ 64 → number_of most (decimal n) ≡ Some n
number_decimal most n le h =
    let value = digits_value-decimal own n h in
    cond-true _ _ None (well_led_decimal n h) ∙ cond-true _ _ None (and_from _ _ (digits_decimal own n h) (le-leb _ most (omega arith))) ∙ ap Some value

-- a byte that is no digit stands in no number's text
pub lacks_decimal : (c n : ℕ) → n < 2 ^ 64 → (IsInRange 48 57 c → ⊥) → Lacks c (decimal n)
lacks_decimal c n h other =
    lacks_from c (decimal n) (λ i lt. not_in_digits own (decimal n) c (digits_decimal own n h) other i lt)

-- nor before the sign behind that text, unless it is the sign
pub lacks_between : (c s n : ℕ) (rest : List ℕ) → n < 2 ^ 64 → (IsInRange 48 57 c → ⊥) → (s ≡ c → ⊥) → Lacks c rest → Lacks c (decimal n ++ s ∷ rest)
lacks_between c s n rest h digit sign more = lacks_append c (decimal n) (s ∷ rest) (lacks_decimal c n h digit) (sign, more)

-- no other text reads as that number
pub decimal_number : (most n : ℕ) (bs : List ℕ) → most < 2 ^ 64 → number_of most bs ≡ Some n → (bs ≡ decimal n) × (n ≤ most)
decimal_number most n bs h e =
    let led : well_led bs ≡ true = grind arith in
    let s = cond_some _ _ n (sym (cond-true (well_led bs) (number_after most 0 bs) None led) ∙ e) in
    let t = and_parts _ _ s.0 in
    let le = leb-true _ _ t.1 in
    (sym (decimal-digits_value own bs t.0 (grind (arith, nat_tests)) (λ first. grind (arith, nat_tests)) (omega arith)) ∙ ap decimal s.1, omega (arith, s.1))

-- what reads as a text's number reads the number's own text back
pub reads_back : (most : ℕ) (bs : List ℕ) (r : Option ℕ) → most < 2 ^ 64 → r ≡ number_of most bs → (n : ℕ) → n ≤ most → bs ≡ decimal n → r ≡ Some n
reads_back most bs r h e n le same = e ∙ ap (number_of most) same ∙ number_decimal most n le (omega arith)

within : (most : ℕ) (bs : List ℕ) (r : Option ℕ) → most < 2 ^ 64 → r ≡ number_of most bs → IfSome r (λ n. n ≤ most)
within most bs None h e = tt
within most bs (Some n) h e = (decimal_number most n bs h (sym e)).1

-- all that is told of a result
pub record Told (most : ℕ) (bs : List ℕ) (r : Option ℕ) : Type 0 where
  pub value : r ≡ number_of most bs
  pub within : IfSome r (λ n. n ≤ most)
  pub one_text : (n : ℕ) → r ≡ Some n → bs ≡ decimal n
  pub reads_back : (n : ℕ) → n ≤ most → bs ≡ decimal n → r ≡ Some n

pub told : (most : ℕ) (bs : List ℕ) (r : Option ℕ) → most < 2 ^ 64 → r ≡ number_of most bs → Told most bs r
told most bs r h e = record {
  value = e;
  within = within most bs r h e;
  one_text = λ n s. (decimal_number most n bs h (sym e ∙ s)).0;
  reads_back = reads_back most bs r h e;
}
