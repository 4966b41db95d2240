-- The digits of a number, from the last to the first. Assumes nothing.
use Rattle.std.proofs.Common.{◌≡◌, ℕ, ◌+◌, ◌-◌, ◌/◌, ◌%◌, ◌^◌, ◌<◌, ◌≤◌, List, [], ◌∷◌, ◌++◌, length, take, drop, set, decimal, sym, ap, ◌∙◌, append_assoc, append-nil, arith, length-append, length-set}
use Rattle.std.proofs.lemmas.Fmt.{decimal_digit, decimal_step, decimal_nonempty, length-decimal-le}
use Rattle.std.proofs.lemmas.List.{drop-set, take_rest}

-- the last digits stand at the end of the array, the number that is left is to be written before them, and there is room for it
pub record Begun (n left from : ℕ) (digits : List ℕ) : Type 0 where
  pub text : decimal n ≡ decimal left ++ drop from digits
  pub room : length (decimal left) ≤ from
  pub end : from ≤ 20
  pub long : length digits ≡ 20
  pub small : left < 2 ^ 64

pub digits_none : (n : ℕ) (digits : List ℕ) → n < 2 ^ 64 → length digits ≡ 20 → drop 20 digits ≡ [] → Begun n n 20 digits
digits_none n digits h l e =
    record { text = sym (append-nil (decimal n)) ∙ ap (λ ds. decimal n ++ ds) (sym e); room = length-decimal-le 20 n (omega arith) (omega arith) h; end = omega arith; long = l; small = h }

pub digits_room : (n left from : ℕ) (digits : List ℕ) → Begun n left from digits → 1 ≤ from
digits_room n left from digits b = omega (arith, decimal_nonempty left b.small)

-- the digit written before the others
before : (n left from : ℕ) (digits : List ℕ) (d : ℕ) → Begun n left from digits → drop (from - 1) (set digits (from - 1) d) ≡ d ∷ drop from digits
before n left from digits d b =
    let room = digits_room n left from digits b in
    let back : from - 1 + 1 ≡ from = omega arith in
    drop-set digits (from - 1) d (omega (arith, b.long)) ∙ ap (λ k. d ∷ drop k digits) back

pub digits_more : (n left from : ℕ) (digits : List ℕ) → Begun n left from digits → 10 ≤ left → Begun n (left / 10) (from - 1) (set digits (from - 1) (48 + left % 10))
digits_more n left from digits b h =
    let step = decimal_step left h b.small in
    record {
      text = b.text ∙ ap (λ ds. ds ++ drop from digits) step ∙ append_assoc (decimal (left / 10)) ((48 + left % 10) ∷ []) (drop from digits) ∙ ap (λ ds. decimal (left / 10) ++ ds) (sym (before n left from digits (48 + left % 10) b));
      room = omega (arith, simp length-append at (ap length step));
      end = omega arith;
      long = simp length-set b.long;
      small = omega arith;
    }

-- the last digit written, all of them are what stands from there to the end
pub digits_all : (n left from : ℕ) (digits : List ℕ) → Begun n left from digits → left < 10 → take (20 - (from - 1)) (drop (from - 1) (set digits (from - 1) (48 + left))) ≡ decimal n
digits_all n left from digits b h =
    let all : List ℕ = set digits (from - 1) (48 + left) in
    let long : length all ≡ 20 = simp length-set b.long in
    ap (λ k. take (k - (from - 1)) (drop (from - 1) all)) (sym long)
    ∙ take_rest all (from - 1)
    ∙ before n left from digits (48 + left) b
    ∙ sym (b.text ∙ ap (λ ds. ds ++ drop from digits) (decimal_digit left h))
