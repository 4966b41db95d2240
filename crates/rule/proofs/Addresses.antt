-- An address, its four octets and its text. Assumes nothing.
use Rattle.std.proofs.Common.{◌≡◌, ℕ, ◌+◌, ◌*◌, ◌/◌, ◌%◌, ◌^◌, ◌<◌, ◌≤◌, List, ◌∷◌, ◌++◌, Some, decimal, sym, ap, ◌∙◌, subst, arith}
use native.Mathlib.Nat.{div-div-eq-div-mul, div-add-mod}
use Rattle.std.specs.Int.{IsInRange}
use Rattle.text.specs.Cutting.{split}
use Rattle.text.specs.Octets.{octet_of}
use Rattle.text.proofs.Cuts.{Lacks, split_at, split_cuts}
use Rattle.text.proofs.Decimal.{number_decimal, decimal_number, lacks_decimal, lacks_between}
use Rattle.text.proofs.Grammar.{octet_number}
use Rattle.text.proofs.Options.{then_parts, option_map_some}
use Rattle.rule.specs.Text.{address_text}
use Rattle.rule.specs.Reading.{dotted, address_of}

-- the number with these four octets
abbrev pub joined : ℕ → ℕ → ℕ → ℕ → ℕ
joined a b c d = a * 16777216 + b * 65536 + c * 256 + d

-- an address is its octets together
pub joined_octets : (n : ℕ) → n < 2 ^ 32 → joined (n / 16777216 % 256) (n / 65536 % 256) (n / 256 % 256) (n % 256) ≡ n
joined_octets n h =
    let two : n / 256 / 256 ≡ n / 65536 = div-div-eq-div-mul n 256 256 in
    let three : n / 65536 / 256 ≡ n / 16777216 = div-div-eq-div-mul n 65536 256 in
    let low : 256 * (n / 256) + n % 256 ≡ n = div-add-mod n 256 in
    let mid : 256 * (n / 256 / 256) + n / 256 % 256 ≡ n / 256 = div-add-mod (n / 256) 256 in
    let high : 256 * (n / 65536 / 256) + n / 65536 % 256 ≡ n / 65536 = div-add-mod (n / 65536) 256 in
    let top : n / 16777216 % 256 ≡ n / 16777216 = omega arith in
    omega arith

pub record Octets (n a b c d : ℕ) : Type 0 where
  pub first : n / 16777216 % 256 ≡ a
  pub second : n / 65536 % 256 ≡ b
  pub third : n / 256 % 256 ≡ c
  pub fourth : n % 256 ≡ d

-- and its octets are those that it was put together from
pub octets_joined : (a b c d : ℕ) → a ≤ 255 → b ≤ 255 → c ≤ 255 → d ≤ 255 → Octets (joined a b c d) a b c d
octets_joined a b c d ha hb hc hd = record { first = omega arith; second = omega arith; third = omega arith; fourth = omega arith }

octet_decimal : (n : ℕ) → n ≤ 255 → octet_of (decimal n) ≡ Some n
octet_decimal n h = octet_number (decimal n) ∙ number_decimal 255 n h (omega arith)

decimal_octet : (bs : List ℕ) (n : ℕ) → octet_of bs ≡ Some n → (bs ≡ decimal n) × (n ≤ 255)
decimal_octet bs n e = decimal_number 255 n bs (omega arith) (sym (octet_number bs) ∙ e)

dotted_decimal : (n : ℕ) (rest : List ℕ) → n ≤ 255 → dotted (decimal n ++ 46 ∷ rest) ≡ Some (n, rest)
dotted_decimal n rest h = rw (split_at 46 (decimal n) rest (lacks_decimal 46 n (omega arith) (λ d. omega arith)), octet_decimal n h)

decimal_dotted : (bs : List ℕ) (p : ℕ × List ℕ) → dotted bs ≡ Some p → (bs ≡ decimal p.0 ++ 46 ∷ p.1) × (p.0 ≤ 255)
decimal_dotted bs p e =
    let s = then_parts (split 46 bs) _ p e in
    let cut = split_cuts 46 bs s.0.0 s.0.1 s.1 in
    let o = option_map_some _ (octet_of s.0.0) p s.2 in
    let d = decimal_octet s.0.0 o.0 o.1 in
    subst (λ (q : ℕ × List ℕ). (bs ≡ decimal q.0 ++ 46 ∷ q.1) × (q.0 ≤ 255)) o.2 (cut.whole ∙ ap (λ l. l ++ 46 ∷ s.0.1) d.0, d.1)

-- the text of an address reads as that address
pub address_of_text : (n : ℕ) → n < 2 ^ 32 → address_of (address_text n) ≡ Some n
address_of_text n h =
    let a = dotted_decimal (n / 16777216 % 256) (decimal (n / 65536 % 256) ++ (46 ∷ decimal (n / 256 % 256) ++ (46 ∷ decimal (n % 256)))) (omega arith) in
    let b = dotted_decimal (n / 65536 % 256) (decimal (n / 256 % 256) ++ (46 ∷ decimal (n % 256))) (omega arith) in
    let c = dotted_decimal (n / 256 % 256) (decimal (n % 256)) (omega arith) in
    let d = octet_decimal (n % 256) (omega arith) in
    rw (a, b, c, d) (ap Some (joined_octets n h))

text_by : (bs x y z : List ℕ) (n a b c d : ℕ) → bs ≡ decimal a ++ 46 ∷ x → x ≡ decimal b ++ 46 ∷ y → y ≡ decimal c ++ 46 ∷ z → z ≡ decimal d → Octets n a b c d → bs ≡ address_text n
text_by bs x y z n a b c d e f g h o = cc

-- no other text does
pub text_of_address : (bs : List ℕ) (n : ℕ) → address_of bs ≡ Some n → bs ≡ address_text n
text_of_address bs n e =
    let a = then_parts (dotted bs) _ n e in
    let b = then_parts (dotted a.0.1) _ n a.2 in
    let c = then_parts (dotted b.0.1) _ n b.2 in
    let d = option_map_some _ (octet_of c.0.1) n c.2 in
    let x = decimal_dotted bs a.0 a.1 in
    let y = decimal_dotted a.0.1 b.0 b.1 in
    let z = decimal_dotted b.0.1 c.0 c.1 in
    let w = decimal_octet c.0.1 d.0 d.1 in
    text_by _ _ _ _ n _ _ _ _ x.0 y.0 z.0 w.0 (subst (λ m. Octets m a.0.0 b.0.0 c.0.0 d.0) d.2 (octets_joined _ _ _ _ x.1 y.1 z.1 w.1))

-- no byte but digits and dots stands in an address
pub lacks_address : (c n : ℕ) → (IsInRange 48 57 c → ⊥) → (46 ≡ c → ⊥) → Lacks c (address_text n)
lacks_address c n digit dot =
    lacks_between c 46 (n / 16777216 % 256) _ (omega arith) digit dot
    (lacks_between c 46 (n / 65536 % 256) _ (omega arith) digit dot
    (lacks_between c 46 (n / 256 % 256) _ (omega arith) digit dot (lacks_decimal c (n % 256) (omega arith) digit)))
