-- A record is written so that it reads back as its rule. Assumes nothing.
use Rattle.std.specs.Prelude.{◌≡◌, ℕ, ◌+◌, ◌*◌, ◌/◌, ◌%◌, ◌^◌, ◌<◌, List, [], ◌∷◌, length, Some, None, Option, ◌≢◌, slice_index, refl}
use Rattle.std.proofs.Common.{sym, ap, ◌∙◌, arith}
use Rattle.std.specs.Option.{ok_or}
use Rattle.std.specs.Result.{result_ok}
use Rattle.std.proofs.lemmas.Bool.{cond-true, cond-false, eq-eqb, ne_eqb}
use Rattle.rule.specs.declared.Parts.{Parts}
use Rattle.rule.specs.declared.Rule.{Rule}
use Rattle.rule.specs.Making.{make, parts_of}
use Rattle.rule.proofs.Rules.{make_parts}
use Rattle.block.specs.Layout.{word, long, word_bytes, long_bytes, parts_in, rule_in, bytes_of, record_bytes}

pub rule_in_none : (bytes : List ℕ) → (word bytes 10 ≢ 0) → rule_in bytes ≡ None
unfolding rule_in
rule_in_none bytes ne = cond-false _ _ _ (ne_eqb _ _ ne)

pub rule_in_made : (bytes : List ℕ) → word bytes 10 ≡ 0 → rule_in bytes ≡ make (parts_in bytes)
unfolding rule_in
rule_in_made bytes e = cond-true _ _ _ (eq-eqb _ _ e)

-- a number of 16 or 32 bits reads back from its bytes
low_word : (n : ℕ) → n / 256 % 256 * 256 + n % 256 ≡ n % 65536
low_word n = omega arith

pub word_back : (n : ℕ) → n < 65536 → word (word_bytes n) 0 ≡ n
word_back n h = omega arith

pub long_back : (n : ℕ) → n < 2 ^ 32 → long (long_bytes n) 0 ≡ n
long_back n h = let high = word_back (n / 65536) (omega arith) in let low = low_word n in omega arith

parts_back : (p : Parts) → p.address < 2 ^ 32 → p.first < 2 ^ 16 → p.last < 2 ^ 16 → parts_in (bytes_of p) ≡ p
parts_back p wide first last = λ i. record {
  address = long_back p.address wide i;
  prefix = p.prefix;
  action = p.action;
  first = word_back p.first first i;
  last = word_back p.last last i;
}

pub length_record : (r : Rule) → length (record_bytes r) ≡ 12
unfolding record_bytes
length_record r = refl

-- the record of a rule reads as that rule
pub rule_in_record : (r : Rule) → rule_in (record_bytes r) ≡ Some r
unfolding record_bytes
rule_in_record r =
    rule_in_made (record_bytes r) refl
    ∙ make_parts r (parts_in (record_bytes r)) (sym (parts_back (parts_of r) r.wide (omega (arith, r.rising, r.port)) r.port))

-- `Rule::try_from(..).ok()` is `make`
ok_part : {X Y : Type 0} (o : Option X) (e : Y) → result_ok (ok_or o e) ≡ o
ok_part None e = refl
ok_part (Some x) e = refl

-- what is read byte by byte is the rule in the record
pub rule_in_read : {Y : Type 0} (bytes : List ℕ) (address first last : ℕ) (e : Y) → word bytes 10 ≡ 0 → address ≡ long bytes 0 → first ≡ word bytes 6 → last ≡ word bytes 8 → result_ok (ok_or (make (record { address = address; prefix = slice_index bytes 4; action = slice_index bytes 5; first = first; last = last })) e) ≡ rule_in bytes
rule_in_read bytes address first last e z a f l =
    ok_part _ e
    ∙ ap make (λ i. record { address = a i; prefix = slice_index bytes 4; action = slice_index bytes 5; first = f i; last = l i })
    ∙ sym (rule_in_made bytes z)

-- the bytes of the parts, put together, are the record
pub bytes_written : (p : Parts) (address first last : List ℕ) → address ≡ (p.address / 16777216 % 256) ∷ (p.address / 65536 % 256) ∷ (p.address / 256 % 256) ∷ (p.address % 256) ∷ [] → first ≡ word_bytes p.first → last ≡ word_bytes p.last → slice_index address 0 ∷ slice_index address 1 ∷ slice_index address 2 ∷ slice_index address 3 ∷ p.prefix ∷ p.action ∷ slice_index first 0 ∷ slice_index first 1 ∷ slice_index last 0 ∷ slice_index last 1 ∷ 0 ∷ 0 ∷ [] ≡ bytes_of p
bytes_written p address first last a f l =
    let top : p.address / 16777216 % 256 ≡ p.address / 65536 / 256 % 256 = omega arith in
    cc
