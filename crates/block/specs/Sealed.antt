-- Writing the check of a block makes it right, and changes nothing else. Assumes nothing.
use Rattle.std.specs.Prelude.{◌≡◌, ℕ, zero, suc, ◌+◌, ◌-◌, ◌<◌, ◌≤◌, true, ◌&&◌, List, [], ◌∷◌, length, take, drop, is_some, None, slice_index, slice_index_or, slice_set, refl}
use Rattle.std.proofs.Common.{sym, ap, ◌∙◌, arith, length-drop}
use Rattle.std.proofs.lemmas.List.{take_all, drop-drop, get_or-drop}
use Rattle.std.proofs.lemmas.Bool.{eq-eqb}
use Rattle.block.specs.Check.{check}
use Rattle.block.specs.Layout.{word_bytes, rule_in, rule_at, record_start, rules_below, check_right, head_right, body_right, damage_of, with_check, sealed}
use Rattle.block.specs.OneRecord.{word_back}
use Rattle.block.specs.Right.{none_from_right}

-- the bytes behind the check
pub behind_check : (b : List ℕ) → length b ≡ 512 → take 510 (drop 2 b) ≡ drop 2 b
behind_check b e = take_all 510 (drop 2 b) (simp length-drop (omega arith))

-- the two bytes of the check, written one by one
pub seal_writes : (b cs : List ℕ) → 2 ≤ length b → cs ≡ word_bytes (check (drop 2 b)) → slice_set (slice_set b 0 (slice_index cs 0)) 1 (slice_index cs 1) ≡ sealed b
unfolding sealed with_check
seal_writes [] cs h e = absurd (omega arith)
seal_writes (x ∷ []) cs h e = absurd (omega arith)
seal_writes (x ∷ y ∷ bytes) cs h e = ap (λ (two : List ℕ). slice_index two 0 ∷ slice_index two 1 ∷ bytes) e

check_small : (bytes : List ℕ) → check bytes < 65536
unfolding check
check_small bytes = omega arith

pub check_written : (bytes : List ℕ) → check_right (with_check bytes) ≡ true
unfolding check_right with_check
check_written bytes = eq-eqb _ _ (word_back (check bytes) (check_small bytes))

pub length_sealed : (b : List ℕ) → 2 ≤ length b → length (sealed b) ≡ length b
unfolding sealed with_check
length_sealed [] h = absurd (omega arith)
length_sealed (x ∷ []) h = absurd (omega arith)
length_sealed (x ∷ y ∷ bytes) h = refl

pub drop_sealed : (b : List ℕ) (m : ℕ) → 2 ≤ m → drop m (sealed b) ≡ drop m b
unfolding sealed with_check
drop_sealed b zero h = absurd (omega arith)
drop_sealed b (suc zero) h = absurd (omega arith)
drop_sealed b (suc (suc m)) h = let e : 2 + m ≡ suc (suc m) = omega arith in drop-drop m 2 b ∙ ap (λ j. drop j b) e

at_head : (b : List ℕ) (m : ℕ) → slice_index b m ≡ slice_index (drop m b) 0
at_head b m = let e : m ≡ m + 0 = omega arith in ap (λ j. slice_index b j) e ∙ sym (get_or-drop m b 0 0)

pub index_sealed : (b : List ℕ) (m : ℕ) → 2 ≤ m → slice_index (sealed b) m ≡ slice_index b m
index_sealed b m h = at_head (sealed b) m ∙ ap (λ bytes. slice_index bytes 0) (drop_sealed b m h) ∙ sym (at_head b m)

pub rule_sealed : (b : List ℕ) (i : ℕ) → rule_at (sealed b) i ≡ rule_at b i
unfolding rule_at
rule_sealed b i = ap (λ bytes. rule_in (take (record_start i + 12 - record_start i) bytes)) (drop_sealed b (record_start i) (omega arith))

pub rules_sealed : (b : List ℕ) (k : ℕ) → rules_below (sealed b) k ≡ rules_below b k
unfolding rules_below
rules_sealed b zero = refl
rules_sealed b (suc k) = ap (λ o. is_some o && rules_below (sealed b) k) (rule_sealed b k) ∙ ap (λ t. is_some (rule_at b k) && t) (rules_sealed b k)

pub head_sealed : (b : List ℕ) (n k : ℕ) → head_right (sealed b) n k ≡ head_right b n k
unfolding head_right
head_sealed b n k =
    let two : slice_index_or (sealed b) 2 0 ≡ slice_index_or b 2 0 = index_sealed b 2 (omega arith) in
    let three : slice_index_or (sealed b) 3 0 ≡ slice_index_or b 3 0 = index_sealed b 3 (omega arith) in
    let zeros : drop 4 (sealed b) ≡ drop 4 b = drop_sealed b 4 (omega arith) in
    cc

pub body_sealed : (b : List ℕ) (k : ℕ) → body_right (sealed b) k ≡ body_right b k
unfolding body_right
body_sealed b k =
    let rules : rules_below (sealed b) k ≡ rules_below b k = rules_sealed b k in
    let zeros : drop (record_start k) (sealed b) ≡ drop (record_start k) b = drop_sealed b (record_start k) (omega arith) in
    cc

-- a block whose head and body are right is right once it is sealed
pub sealed_right : (b : List ℕ) (n k : ℕ) → head_right b n k ≡ true → body_right b k ≡ true → damage_of (sealed b) n k ≡ None
unfolding sealed
sealed_right b n k head body = none_from_right (sealed b) n k (record { check = check_written (drop 2 b); head = head_sealed b n k ∙ head; body = body_sealed b k ∙ body })
