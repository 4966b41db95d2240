-- A block with one record rewritten: that record holds the new rule, the others hold what they held, and it is as right as before. Assumes nothing.
use Rattle.std.specs.Prelude.{◌≡◌, ℕ, ◌+◌, ◌-◌, ◌<◌, ◌≤◌, true, ◌⊎◌, List, ◌++◌, length, get_or, take, drop, is_some, Some, None, ◌≢◌, slice_index, slice_index_or}
use Rattle.std.proofs.Common.{sym, ap, ◌∙◌, inl, inr, ⊎_elim, arith, rules, length-drop, length-take}
use borrow.Rule.Slice.PartMut.{put_mid}
use Rattle.std.proofs.Math.Seq.{paste}
use Rattle.std.proofs.lemmas.List.Edits.{length-paste}
use Rattle.std.proofs.lemmas.List.{places, append_assoc, same_lists, take_all, take_at, drop_at, length-take-le, get_or-drop, get_or-take}
use Rattle.std.proofs.lemmas.Slice.{put_mid-paste}
use Rattle.std.proofs.lemmas.Bool.{cases_eq, cases_lt, and_parts, and_from}
use Rattle.rule.specs.declared.Rule.{Rule}
use Rattle.block.specs.Layout.{rule_in, rule_at, record_bytes, record_start, with_record, all_zero, rules_below, head_right, body_right, damage_of, rewritten}
use Rattle.block.specs.OneRecord.{length_record, rule_in_record}
use Rattle.block.specs.Right.{right_from_none, rules_each, rules_from_each}
use Rattle.block.specs.Sealed.{length_sealed, index_sealed, rule_sealed, sealed_right}

-- bytes pasted into a list, and the others as they were
index_below : (b bytes : List ℕ) (at k d : ℕ) → at + 12 ≤ length b → length bytes ≡ 12 → k < at → slice_index_or (paste b at bytes 12) k d ≡ slice_index_or b k d
index_below b bytes at k d h e l = search (rules, places)

index_above : (b bytes : List ℕ) (at k d : ℕ) → at + 12 ≤ length b → length bytes ≡ 12 → at + 12 ≤ k → slice_index_or (paste b at bytes 12) k d ≡ slice_index_or b k d
index_above b bytes at k d h e l = grind (arith, places)

part_inside : (b bytes : List ℕ) (at : ℕ) → at + 12 ≤ length b → length bytes ≡ 12 → take 12 (drop at (paste b at bytes 12)) ≡ bytes
part_inside b bytes at h e =
    ap (λ l. take 12 (drop at l)) (append_assoc (take at b) (take 12 bytes) (drop (at + 12) b))
    ∙ ap (take 12) (drop_at (take at b) (take 12 bytes ++ drop (at + 12) b) at (length-take-le at b (omega arith)))
    ∙ take_at (take 12 bytes) (drop (at + 12) b) 12 (length-take-le 12 bytes (omega arith))
    ∙ take_all 12 bytes (omega arith)

-- a part of two lists that agree there
part_same : (a b : List ℕ) (from n : ℕ) → length a ≡ length b → ((k d : ℕ) → from ≤ k → k < from + n → slice_index_or a k d ≡ slice_index_or b k d) → take n (drop from a) ≡ take n (drop from b)
part_same a b from n e each =
    same_lists _ _ (simp (length-take, length-drop) (omega arith))
    (λ k d h.
    let less : k < n = omega (arith, length-take n (drop from a)) in
    get_or-take n (drop from a) k d less ∙ get_or-drop from a k d ∙ each (from + k) d (omega arith) (omega arith)
    ∙ sym (get_or-drop from b k d) ∙ sym (get_or-take n (drop from b) k d less))

rest_same : (a b : List ℕ) (from : ℕ) → length a ≡ length b → ((k d : ℕ) → from ≤ k → slice_index_or a k d ≡ slice_index_or b k d) → drop from a ≡ drop from b
rest_same a b from e each =
    same_lists _ _ (simp length-drop (omega arith))
    (λ k d h. get_or-drop from a k d ∙ each (from + k) d (omega arith) ∙ sym (get_or-drop from b k d))

-- what a copy into the place of record i leaves
pub record_pasted : (b bytes : List ℕ) (i : ℕ) (r : Rule) → bytes ≡ record_bytes r → put_mid (record_start i) (record_start i + 12 - record_start i) b bytes ≡ with_record b i r
record_pasted b bytes i r e = put_mid-paste (record_start i) _ b bytes (record_bytes r) 12 e (omega arith) (sym (length_record r))

length_pasted : (b : List ℕ) (i : ℕ) (r : Rule) → length b ≡ 512 → i < 32 → length (with_record b i r) ≡ length b
length_pasted b i r e h = length-paste b (record_start i) (record_bytes r) 12 (omega arith) (omega (arith, length_record r))

index_pasted : (b : List ℕ) (i : ℕ) (r : Rule) (k d : ℕ) → length b ≡ 512 → i < 32 → (k < record_start i) ⊎ (record_start i + 12 ≤ k) → slice_index_or (with_record b i r) k d ≡ slice_index_or b k d
index_pasted b i r k d e h away =
    ⊎_elim (index_below b (record_bytes r) (record_start i) k d (omega arith) (length_record r))
    (index_above b (record_bytes r) (record_start i) k d (omega arith) (length_record r)) away

rule_pasted : (b : List ℕ) (i : ℕ) (r : Rule) → length b ≡ 512 → i < 32 → rule_at (with_record b i r) i ≡ Some r
unfolding rule_at
rule_pasted b i r e h =
    let twelve : record_start i + 12 - record_start i ≡ 12 = omega arith in
    ap (λ n. rule_in (take n (drop (record_start i) (with_record b i r)))) twelve
    ∙ ap rule_in (part_inside b (record_bytes r) (record_start i) (omega arith) (length_record r))
    ∙ rule_in_record r

apart : (i j k : ℕ) → (j ≢ i) → record_start j ≤ k → k < record_start j + (record_start j + 12 - record_start j) → (k < record_start i) ⊎ (record_start i + 12 ≤ k)
apart i j k ne low high = ⊎_elim (λ l. inl (omega arith)) (λ l. inr (omega arith)) (cases_lt j i)

other_pasted : (b : List ℕ) (i j : ℕ) (r : Rule) → length b ≡ 512 → i < 32 → (j ≢ i) → rule_at (with_record b i r) j ≡ rule_at b j
unfolding rule_at
other_pasted b i j r e h ne =
    ap rule_in (part_same (with_record b i r) b (record_start j) (record_start j + 12 - record_start j) (length_pasted b i r e h) (λ k d low high. index_pasted b i r k d e h (apart i j k ne low high)))

head_pasted : (b : List ℕ) (n k i : ℕ) (r : Rule) → length b ≡ 512 → i < 32 → head_right (with_record b i r) n k ≡ head_right b n k
unfolding head_right
head_pasted b n k i r e h =
    let two : get_or (with_record b i r) 2 0 ≡ get_or b 2 0 = index_pasted b i r 2 0 e h (inl (omega arith)) in
    let three : get_or (with_record b i r) 3 0 ≡ get_or b 3 0 = index_pasted b i r 3 0 e h (inl (omega arith)) in
    let zeros : take 12 (drop 4 (with_record b i r)) ≡ take 12 (drop 4 b) = part_same (with_record b i r) b 4 12 (length_pasted b i r e h) (λ j d low high. index_pasted b i r j d e h (inl (omega arith))) in
    cc

body_pasted : (b : List ℕ) (k i : ℕ) (r : Rule) → length b ≡ 512 → i < k → k ≤ 32 → body_right b k ≡ true → body_right (with_record b i r) k ≡ true
unfolding body_right
body_pasted b k i r e h few right =
    let both = and_parts (rules_below b k) (all_zero (drop (record_start k) b)) right in
    and_from _ _
    (rules_from_each (with_record b i r) k (λ j l. ⊎_elim (λ same. ap (λ m. is_some (rule_at (with_record b i r) m)) same ∙ ap is_some (rule_pasted b i r e (omega arith))) (λ ne. ap is_some (other_pasted b i j r e (omega arith) ne) ∙ rules_each b k both.0 j l) (cases_eq j i)))
    (ap all_zero (rest_same (with_record b i r) b (record_start k) (length_pasted b i r e (omega arith)) (λ j d low. index_pasted b i r j d e (omega arith) (inr (omega arith)))) ∙ both.1)

-- the block with its check written too

pub length_rewritten : (b : List ℕ) (i : ℕ) (r : Rule) → length b ≡ 512 → i < 32 → length (rewritten b i r) ≡ 512
unfolding rewritten
length_rewritten b i r e h = let same = length_pasted b i r e h in length_sealed (with_record b i r) (omega arith) ∙ same ∙ e

pub rule_rewritten : (b : List ℕ) (i : ℕ) (r : Rule) → length b ≡ 512 → i < 32 → rule_at (rewritten b i r) i ≡ Some r
unfolding rewritten
rule_rewritten b i r e h = rule_sealed (with_record b i r) i ∙ rule_pasted b i r e h

pub other_rewritten : (b : List ℕ) (i j : ℕ) (r : Rule) → length b ≡ 512 → i < 32 → (j ≢ i) → rule_at (rewritten b i r) j ≡ rule_at b j
unfolding rewritten
other_rewritten b i j r e h ne = rule_sealed (with_record b i r) j ∙ other_pasted b i j r e h ne

pub byte_rewritten : (b : List ℕ) (i : ℕ) (r : Rule) (m : ℕ) → length b ≡ 512 → i < 32 → 2 ≤ m → (m < record_start i) ⊎ (record_start i + 12 ≤ m) → slice_index (rewritten b i r) m ≡ slice_index b m
unfolding rewritten
byte_rewritten b i r m e h behind away = index_sealed (with_record b i r) m behind ∙ index_pasted b i r m 0 e h away

pub right_rewritten : (b : List ℕ) (n k i : ℕ) (r : Rule) → length b ≡ 512 → i < k → k ≤ 32 → damage_of b n k ≡ None → damage_of (rewritten b i r) n k ≡ None
unfolding rewritten
right_rewritten b n k i r e h few none =
    let right = right_from_none b n k none in
    sealed_right (with_record b i r) n k (head_pasted b n k i r e (omega arith) ∙ right.head) (body_pasted b k i r e h few right.body)
