-- A memory of open rules, block by block. Assumes nothing.
use Rattle.std.proofs.Common.{◌≡◌, ℕ, zero, suc, ◌+◌, ◌-◌, ◌*◌, ◌/◌, ◌%◌, ◌<◌, ◌≤◌, true, List, [], ◌∷◌, ◌++◌, length, take, drop, replicate, Some, None, sym, refl, ap, ◌∙◌, add-zero, zero-add, arith}
use borrow.Rule.Slice.PartMut.{put_mid}
use Rattle.std.specs.List.{range_with_len, flat_map}
use Rattle.std.proofs.lemmas.List.FromFn.{length-map-range_with_len, get_or-map-range_with_len, map-range_with_len_more}
use Rattle.std.proofs.lemmas.List.{same_lists, take_all, take_at, drop_at, drop-drop, flat_map_more, map-id, get_or-replicate, length-replicate}
use Rattle.std.proofs.lemmas.Slice.{take-put_mid}
use Rattle.rule.specs.Making.{open_rule}
use Rattle.store.specs.declared.Entry.TheVariants.{Intact}
use Rattle.block.specs.Layout.{rule_at, damage_of, laid_out}
use Rattle.block.specs.Memory.{blocks, slots_in, fits, block_at, entry_in, entry_at, block_entries, formatted}
use Rattle.block.proofs.LaidOut.{length_laid, right_laid, rule_laid}
use Rattle.block.specs.Memories.{counted}

-- block n of k open rules
abbrev pub open_block : ℕ → ℕ → List ℕ
open_block k n = laid_out n (replicate (slots_in k n) open_rule)

-- the first n blocks of k open rules
unfoldable pub formatted_below : ℕ → ℕ → List ℕ
formatted_below k n = flat_map (open_block k) (range_with_len 0 n)

pub length_open : (k n : ℕ) → length (open_block k n) ≡ 512
length_open k n = length_laid n (replicate (slots_in k n) open_rule) (omega (arith, length-replicate (slots_in k n) open_rule))

pub formatted_none : (k : ℕ) → [] ≡ formatted_below k 0
unfolding formatted_below
formatted_none k = refl

counting_more : (n : ℕ) → range_with_len 0 (n + 1) ≡ range_with_len 0 n ++ n ∷ []
counting_more n = sym (map-id _) ∙ map-range_with_len_more (λ m. m) 0 n n (zero-add n) ∙ ap (λ l. l ++ n ∷ []) (map-id _)

-- one block more
pub formatted_more : (k n size : ℕ) (bytes block : List ℕ) → 512 * n ≤ length bytes → block ≡ open_block k n → take (512 * n) bytes ≡ formatted_below k n → take (512 * (n + 1)) (put_mid (512 * n) size bytes block) ≡ formatted_below k (n + 1)
unfolding formatted_below
formatted_more k n size bytes block le is so_far =
    take-put_mid (512 * n) size bytes block (512 * (n + 1)) (omega (arith, ap length is, length_open k n)) le
    ∙ ap (λ l. l ++ block) so_far
    ∙ ap (λ b. flat_map (open_block k) (range_with_len 0 n) ++ b) is
    ∙ flat_map_more (open_block k) [] (range_with_len 0 n) n
    ∙ ap (flat_map (open_block k)) (sym (counting_more n))

-- block i of blocks laid one behind another
block_joined : (k a m i : ℕ) → i < m → block_at (flat_map (open_block k) (range_with_len a m)) i ≡ open_block k (a + i)
block_joined k a zero i lt = absurd (omega arith)
block_joined k a (suc m) zero lt = take_at (open_block k a) (flat_map (open_block k) (range_with_len (a + 1) m)) 512 (length_open k a) ∙ ap (open_block k) (sym (add-zero a))
block_joined k a (suc m) (suc i) lt =
    let rest = flat_map (open_block k) (range_with_len (a + 1) m) in
    let all = open_block k a ++ rest in
    let past : 512 * suc i ≡ 512 + 512 * i = omega arith in
    let size : 512 + 512 * i + 512 - (512 + 512 * i) ≡ 512 * i + 512 - 512 * i = omega arith in
    let next : a + 1 + i ≡ a + suc i = omega arith in
    ap (λ z. take (z + 512 - z) (drop z all)) past
    ∙ ap (λ l. take (512 + 512 * i + 512 - (512 + 512 * i)) l) (sym (drop-drop (512 * i) 512 all))
    ∙ ap (λ l. take (512 + 512 * i + 512 - (512 + 512 * i)) (drop (512 * i) l)) (drop_at (open_block k a) rest 512 (length_open k a))
    ∙ ap (λ z. take z (drop (512 * i) rest)) size
    ∙ block_joined k (a + 1) m i (omega arith)
    ∙ ap (open_block k) next

pub formatted_block : (k n : ℕ) → n < blocks k → block_at (formatted k) n ≡ open_block k n
formatted_block k n lt = block_joined k 0 (blocks k) n lt ∙ ap (open_block k) (zero-add n)

open_entry : (k x : ℕ) → x < k → entry_at (formatted k) k x ≡ Intact open_rule
unfolding entry_at
open_entry k x lt =
    let n = x / 32 in
    let rules = replicate (slots_in k n) open_rule in
    let many = length-replicate (slots_in k n) open_rule in
    ap (λ b. entry_in (damage_of b n (slots_in k n)) (rule_at b (x % 32)) n) (formatted_block k n (omega arith))
    ∙ ap (λ o. entry_in o (rule_at (open_block k n) (x % 32)) n) (ap (damage_of (open_block k n) n) (sym many) ∙ right_laid n rules)
    ∙ ap (λ o. entry_in None o n) (rule_laid n rules (x % 32) (omega (arith, many)) ∙ ap Some (get_or-replicate (slots_in k n) (x % 32) open_rule open_rule (omega arith)))

-- a formatted memory means open rules
pub formatted_means : (k : ℕ) → fits k (length (formatted k)) ≡ true → block_entries (formatted k) k ≡ replicate k (Intact open_rule)
formatted_means k e =
    counted (formatted k) k e
    ∙ same_lists _ _ (length-map-range_with_len (entry_at (formatted k) k) 0 k ∙ sym (length-replicate k (Intact open_rule)))
    (λ x d h.
    let lt : x < k = omega (arith, length-map-range_with_len (entry_at (formatted k) k) 0 k) in
    get_or-map-range_with_len (entry_at (formatted k) k) 0 k x x d lt (zero-add x) ∙ open_entry k x lt ∙ sym (get_or-replicate k x (Intact open_rule) d lt))

-- all blocks
pub formatted_all : (k n : ℕ) (bytes : List ℕ) → length bytes ≡ 512 * blocks k → n ≡ blocks k → take (512 * n) bytes ≡ formatted_below k n → bytes ≡ formatted k
unfolding formatted_below
formatted_all k n bytes size last so_far = sym (take_all (512 * n) bytes (omega arith)) ∙ so_far ∙ ap (λ m. flat_map (open_block k) (range_with_len 0 m)) last
