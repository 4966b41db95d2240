-- A block of rules that is laid out reads back as those rules. Assumes nothing.
use Rattle.std.proofs.Common.{◌≡◌, ℕ, zero, suc, ◌+◌, ◌-◌, ◌*◌, ◌<◌, ◌≤◌, true, List, [], ◌∷◌, ◌++◌, length, get_or, take, drop, replicate, is_some, Some, None, sym, refl, ap, ◌∙◌, arith, length-append}
use borrow.Rule.Slice.PartMut.{put_mid}
use lib.ListN.{length-replicate}
use Rattle.std.specs.List.{flat_map, AllByRecursion}
use lib.Seq.{paste}
use Rattle.std.proofs.lemmas.List.{drop-drop, drop_at, take_at, drop-replicate, flat_map_more, replicate_more, length_push, take_all}
use Rattle.std.proofs.lemmas.Bool.{and_from, eq-eqb}
use Rattle.rule.specs.declared.Rule.{Rule}
use Rattle.rule.specs.Making.{parts_of, facts, open_rule}
use Rattle.rule.proofs.Rules.{rule_makes}
use Rattle.block.specs.Layout.{rule_in, rule_at, record_bytes, record_start, with_record, all_zero, head_right, body_right, damage_of, with_check, sealed, laid_out, WrittenReadsBack}
use Rattle.block.specs.OneRecord.{length_record, rule_in_record}
use Rattle.block.specs.Right.{rules_from_each}
use Rattle.block.specs.Rewritten.{record_pasted}
use Rattle.block.specs.Sealed.{length_sealed, rule_sealed, sealed_right}

-- the bytes behind the head
abbrev pub body : List Rule → List ℕ
body rules = flat_map record_bytes rules ++ replicate (496 - 12 * length rules) 0

-- the block before its check is written, with k as the number of its slots
abbrev pub unsealed : ℕ → ℕ → List Rule → List ℕ
unsealed n k rules = 0 ∷ 0 ∷ n ∷ k ∷ replicate 12 0 ++ body rules

pub laid_is_sealed : (n : ℕ) (rules : List Rule) → laid_out n rules ≡ sealed (unsealed n (length rules) rules)
unfolding laid_out sealed
laid_is_sealed n rules = refl

length_joined : (rules : List Rule) → length (flat_map record_bytes rules) ≡ 12 * length rules
length_joined [] = refl
length_joined (r ∷ rules) = length-append (record_bytes r) (flat_map record_bytes rules) ∙ omega (arith, length_record r, length_joined rules)

length_unsealed : (n k : ℕ) (rules : List Rule) → length rules ≤ 32 → length (unsealed n k rules) ≡ 512
length_unsealed n k rules few =
    let all : length (body rules) ≡ 496 = length-append (flat_map record_bytes rules) (replicate (496 - 12 * length rules) 0) ∙ omega (arith, length_joined rules, length-replicate {A = ℕ} (496 - 12 * length rules) 0) in
    omega arith

-- record i of those that stand one behind the other
record_joined : (rules : List Rule) (zeros : List ℕ) (i : ℕ) → i < length rules → take 12 (drop (12 * i) (flat_map record_bytes rules ++ zeros)) ≡ record_bytes (get_or rules i open_rule)
unfolding record_bytes
record_joined [] zeros i h = absurd (omega arith)
record_joined (r ∷ rules) zeros zero h = refl
record_joined (r ∷ rules) zeros (suc i) h =
    let twelve : 12 * suc i ≡ 12 + 12 * i = omega arith in
    ap (λ m. take 12 (drop m (flat_map record_bytes (r ∷ rules) ++ zeros))) twelve
    ∙ ap (take 12) (sym (drop-drop (12 * i) 12 (flat_map record_bytes (r ∷ rules) ++ zeros)))
    ∙ record_joined rules zeros i (omega arith)

rule_unsealed : (n k : ℕ) (rules : List Rule) (i : ℕ) → i < length rules → rule_at (unsealed n k rules) i ≡ Some (get_or rules i open_rule)
unfolding rule_at
rule_unsealed n k rules i h =
    let twelve : record_start i + 12 - record_start i ≡ 12 = omega arith in
    ap (λ m. rule_in (take m (drop (record_start i) (unsealed n k rules)))) twelve
    ∙ ap (λ bytes. rule_in (take 12 bytes)) (sym (drop-drop (12 * i) 16 (unsealed n k rules)))
    ∙ ap rule_in (record_joined rules (replicate (496 - 12 * length rules) 0) i h)
    ∙ rule_in_record (get_or rules i open_rule)

all_zero_zeros : (m : ℕ) → all_zero (replicate m 0) ≡ true
unfolding all_zero
all_zero_zeros zero = refl
all_zero_zeros (suc m) = all_zero_zeros m

head_unsealed : (n k : ℕ) (rules : List Rule) → head_right (unsealed n k rules) n k ≡ true
unfolding head_right all_zero
head_unsealed n k rules = and_from _ _ (eq-eqb n n refl) (and_from _ _ (eq-eqb k k refl) refl)

body_unsealed : (n k : ℕ) (rules : List Rule) → body_right (unsealed n k rules) (length rules) ≡ true
unfolding body_right
body_unsealed n k rules =
    and_from _ _ (rules_from_each (unsealed n k rules) (length rules) (λ i h. ap is_some (rule_unsealed n k rules i h)))
    (ap all_zero
    (sym (drop-drop (12 * length rules) 16 (unsealed n k rules))
    ∙ drop_at (flat_map record_bytes rules) (replicate (496 - 12 * length rules) 0) (12 * length rules) (length_joined rules))
    ∙ all_zero_zeros (496 - 12 * length rules))

pub length_laid : (n : ℕ) (rules : List Rule) → length rules ≤ 32 → length (laid_out n rules) ≡ 512
length_laid n rules few =
    let long = length_unsealed n (length rules) rules few in
    ap length (laid_is_sealed n rules) ∙ length_sealed (unsealed n (length rules) rules) (omega arith) ∙ long

pub right_laid : (n : ℕ) (rules : List Rule) → damage_of (laid_out n rules) n (length rules) ≡ None
right_laid n rules =
    ap (λ b. damage_of b n (length rules)) (laid_is_sealed n rules)
    ∙ sealed_right (unsealed n (length rules) rules) n (length rules) (head_unsealed n (length rules) rules) (body_unsealed n (length rules) rules)

pub rule_laid : (n : ℕ) (rules : List Rule) (i : ℕ) → i < length rules → rule_at (laid_out n rules) i ≡ Some (get_or rules i open_rule)
rule_laid n rules i h =
    ap (λ b. rule_at b i) (laid_is_sealed n rules) ∙ rule_sealed (unsealed n (length rules) rules) i ∙ rule_unsealed n (length rules) rules i h

-- each of its elements is a byte
abbrev Bytes : List ℕ → Type 0
Bytes bytes = AllByRecursion (λ byte. byte < 256) bytes

bytes_record : (r : Rule) → Bytes (record_bytes r)
unfolding record_bytes
bytes_record r =
    let known = (facts (parts_of r) (rule_makes r)).known in
    (omega arith, (omega arith, (omega arith, (omega arith, (omega (arith, r.short), (omega (arith, known), (omega arith, (omega arith, (omega arith, (omega arith, (omega arith, (omega arith, tt))))))))))))

bytes_append : (xs ys : List ℕ) → Bytes xs → Bytes ys → Bytes (xs ++ ys)
bytes_append [] ys left right = right
bytes_append (x ∷ xs) ys left right = (left.0, bytes_append xs ys left.1 right)

bytes_joined : (rules : List Rule) → Bytes (flat_map record_bytes rules)
bytes_joined [] = tt
bytes_joined (r ∷ rules) = bytes_append (record_bytes r) (flat_map record_bytes rules) (bytes_record r) (bytes_joined rules)

bytes_zeros : (m : ℕ) → Bytes (replicate m 0)
bytes_zeros zero = tt
bytes_zeros (suc m) = (omega arith, bytes_zeros m)

pub bytes_laid : (n : ℕ) (rules : List Rule) → n < 256 → length rules ≤ 32 → Bytes (laid_out n rules)
unfolding laid_out with_check
bytes_laid n rules small few =
    let body = bytes_append (flat_map record_bytes rules) (replicate (496 - 12 * length rules) 0) (bytes_joined rules) (bytes_zeros (496 - 12 * length rules)) in
    (omega arith, (omega arith, (small, (omega arith, bytes_append (replicate 12 0) _ (bytes_zeros 12) body))))

pub written_reads_back : WrittenReadsBack
written_reads_back n rules small few = record { size = length_laid n rules few; bytes = bytes_laid n rules small few; right = right_laid n rules; reads = rule_laid n rules }

-- the block as it is written, record by record

-- twelve bytes pasted behind p
paste_at : (p q bytes : List ℕ) (at : ℕ) → length p ≡ at → length bytes ≡ 12 → paste (p ++ q) at bytes 12 ≡ p ++ bytes ++ drop 12 q
paste_at p q bytes at e twelve =
    let front : take at (p ++ q) ≡ p = take_at p q at e in
    let whole : take 12 bytes ≡ bytes = take_all 12 bytes (omega arith) in
    let rest : drop (at + 12) (p ++ q) ≡ drop 12 q = sym (drop-drop 12 at (p ++ q)) ∙ ap (drop 12) (drop_at p q at e) in
    cc

abbrev front : ℕ → ℕ → List ℕ → List ℕ
front n k records = 0 ∷ 0 ∷ n ∷ k ∷ replicate 12 0 ++ records

fewer_zeros : (rules : List Rule) (r : Rule) → drop {A = ℕ} 12 (replicate (496 - 12 * length rules) 0) ≡ replicate (496 - 12 * length (rules ++ r ∷ [])) 0
fewer_zeros rules r =
    let fewer : 496 - 12 * length rules - 12 ≡ 496 - 12 * length (rules ++ r ∷ []) = omega (arith, length_push rules r) in
    drop-replicate {X = ℕ} 12 (496 - 12 * length rules) 0 ∙ ap (λ m. replicate m 0) fewer

pub unsealed_more : (n k : ℕ) (rules : List Rule) (r : Rule) → with_record (unsealed n k rules) (length rules) r ≡ unsealed n k (rules ++ r ∷ [])
unsealed_more n k rules r =
    let all = length_joined rules in
    paste_at (front n k (flat_map record_bytes rules)) (replicate (496 - 12 * length rules) 0) (record_bytes r) (record_start (length rules)) (omega arith) (length_record r)
    ∙ ap (λ records. front n k (records ++ drop 12 (replicate (496 - 12 * length rules) 0))) (flat_map_more record_bytes [] rules r)
    ∙ ap (λ zeros. front n k (flat_map record_bytes (rules ++ r ∷ []) ++ zeros)) (fewer_zeros rules r)

-- the same with i open rules
pub unsealed_open : (n k i : ℕ) (b : List ℕ) → b ≡ unsealed n k (replicate i open_rule) → with_record b i open_rule ≡ unsealed n k (replicate (i + 1) open_rule)
unsealed_open n k i b inv =
    ap (λ l. with_record l i open_rule) inv
    ∙ ap (λ m. with_record (unsealed n k (replicate i open_rule)) m open_rule) (sym (length-replicate i open_rule))
    ∙ unsealed_more n k (replicate i open_rule) open_rule
    ∙ ap (unsealed n k) (replicate_more i open_rule)

-- the same, as a copy leaves it
pub unsealed_copied : (n k i : ℕ) (b bytes : List ℕ) → b ≡ unsealed n k (replicate i open_rule) → bytes ≡ record_bytes open_rule → put_mid (record_start i) (record_start i + 12 - record_start i) b bytes ≡ unsealed n k (replicate (i + 1) open_rule)
unsealed_copied n k i b bytes inv e = record_pasted b bytes i open_rule e ∙ unsealed_open n k i b inv

pub laid_open : (n k i : ℕ) → k ≡ i → sealed (unsealed n k (replicate i open_rule)) ≡ laid_out n (replicate k open_rule)
laid_open n k i e =
    ap (λ m. sealed (unsealed n k (replicate m open_rule))) (sym e)
    ∙ ap (λ m. sealed (unsealed n m (replicate k open_rule))) (sym (length-replicate k open_rule))
    ∙ sym (laid_is_sealed n (replicate k open_rule))
