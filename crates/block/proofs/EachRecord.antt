-- The records of a block, one by one and all together. Assumes nothing.
use Rattle.std.proofs.Common.{◌≡◌, ℕ, zero, suc, ◌+◌, ◌-◌, ◌*◌, ◌/◌, ◌<◌, ◌≤◌, Bool, true, false, ◌&&◌, List, [], length, get_or, take, drop, is_some, sym, refl, add-one, ap, ◌∙◌, arith}
use Rattle.std.specs.List.{list_all}
use Rattle.std.specs.Simd.{first_chunks}
use Rattle.std.proofs.lemmas.List.{drop-drop, length-drop, take_all}
use Rattle.std.proofs.lemmas.List.Folds.{list_all_more}
use Rattle.block.proofs.Chunks.{length_chunks, chunk_at}
use Rattle.block.specs.Layout.{records_in, record_start, rule_in, rule_at, rules_below}

pub records_of : (b : List ℕ) → length b ≡ 512 → first_chunks 12 (length (take 496 (drop 16 b)) / 12) (take 496 (drop 16 b)) ≡ records_in b
unfolding records_in
records_of b e =
    let whole : take 496 (drop 16 b) ≡ drop 16 b = take_all 496 (drop 16 b) (omega (arith, length-drop 16 b)) in
    let many : length (drop 16 b) / 12 ≡ 41 = omega (arith, length-drop 16 b) in
    ap (λ l. first_chunks 12 (length l / 12) l) whole ∙ ap (λ k. first_chunks 12 k (drop 16 b)) many

pub length_records : (b : List ℕ) → length (records_in b) ≡ 41
unfolding records_in
length_records b = length_chunks 12 41 (drop 16 b)

pub record_at : (b : List ℕ) (i : ℕ) (d : List ℕ) → i < 41 → rule_in (get_or (records_in b) i d) ≡ rule_at b i
unfolding records_in rule_at
record_at b i d h =
    let twelve : 12 ≡ record_start i + 12 - record_start i = omega arith in
    ap rule_in (chunk_at 12 41 i (drop 16 b) d h ∙ ap (take 12) (drop-drop (12 * i) 16 b) ∙ ap (λ m. take m (drop (record_start i) b)) twelve)

and_swap : (x y : Bool) → (x && y) ≡ (y && x)
and_swap true true = refl
and_swap true false = refl
and_swap false true = refl
and_swap false false = refl

swapped : {x y a b : Bool} → x ≡ a → y ≡ b → (y && x) ≡ (a && b)
swapped {x} {y} {a} {b} p q = and_swap y x ∙ (λ i. p i && q i)

-- each of the first k records holds a rule
pub records_hold : (b : List ℕ) (k : ℕ) → k ≤ 32 → list_all (λ bytes. is_some (rule_in bytes)) (take k (records_in b)) ≡ rules_below b k
unfolding rules_below
records_hold b zero h = refl
records_hold b (suc k) h =
    ap (λ n. list_all (λ bytes. is_some (rule_in bytes)) (take n (records_in b))) (sym (add-one k))
    ∙ list_all_more (λ bytes. is_some (rule_in bytes)) (records_in b) k [] (omega (arith, length_records b))
    ∙ swapped (ap is_some (record_at b k [] (omega arith))) (records_hold b k (omega arith))
