-- The entries of a memory of blocks, and what writing one rule does to them. Assumes nothing.
use Rattle.std.specs.Prelude.{◌≡◌, ℕ, ◌+◌, ◌-◌, ◌*◌, ◌/◌, ◌%◌, ◌<◌, ◌≤◌, true, false, List, [], map, length, get_or, take, drop, set, Some, None, Ok, Option, ◌≢◌, slice_index_or, slice_set, refl}
use Rattle.std.proofs.Math.Path.{sym, ap}
use Rattle.std.proofs.Common.{◌∙◌, ⊎_elim, zero-add, arith, length-set}
use borrow.Rule.Slice.PartMut.{put_mid}
use Rattle.std.specs.List.{range_with_len}
use Rattle.std.proofs.lemmas.List.FromFn.{length-map-range_with_len, get_or-map-range_with_len}
use Rattle.std.proofs.lemmas.List.Edits.{length-between, length-paste}
use Rattle.std.proofs.lemmas.List.{same_lists, get_or-set_same, get_or-set_other}
use Rattle.std.proofs.lemmas.Slice.{between_is, put_mid-paste, take-put_mid_below, drop-put_mid, between-put_mid}
use Rattle.std.proofs.lemmas.Bool.{cond-true, cond-false, cases_Bool, cases_eq, cases_order, and_parts, leb-true, eqb-true}
use Rattle.refusal.specs.declared.Fault.{Fault}
use Rattle.rule.specs.declared.Rule.{Rule}
use Rattle.store.specs.declared.Entry.TheVariants.{Intact}
use Rattle.store.specs.Entries.{answer, got}
use Rattle.store.specs.Slots.{got_inside}
use Rattle.block.specs.Layout.{rule_at, damage_of, rewritten}
use Rattle.block.specs.Memory.{counts, blocks, slots_in, fits, block_at, entry_in, entry_at, block_entries, with_rule}
use Rattle.block.specs.Rewritten.{length_rewritten, rule_rewritten, other_rewritten, right_rewritten}

pub counted : (bytes : List ℕ) (k : ℕ) → fits k (length bytes) ≡ true → block_entries bytes k ≡ map (entry_at bytes k) (range_with_len 0 k)
counted bytes k e = cond-true (fits k (length bytes)) (map (entry_at bytes k) (range_with_len 0 k)) [] e

pub not_counted : (bytes : List ℕ) (k : ℕ) → fits k (length bytes) ≡ false → block_entries bytes k ≡ []
not_counted bytes k e = cond-false (fits k (length bytes)) (map (entry_at bytes k) (range_with_len 0 k)) [] e

-- what the check says of count and size
pub record Fits (k size : ℕ) : Type 0 where
  pub some : 1 ≤ k
  pub few : k ≤ 64
  pub whole : size ≡ 512 * blocks k

pub fits_says : (k size : ℕ) → fits k size ≡ true → Fits k size
fits_says k size e =
    let both = and_parts (counts k) _ e in
    let count = and_parts _ _ both.0 in
    record { some = leb-true _ _ count.0; few = leb-true _ _ count.1; whole = eqb-true _ _ both.1 }

pub length_entries : (bytes : List ℕ) (k : ℕ) → fits k (length bytes) ≡ true → length (block_entries bytes k) ≡ k
length_entries bytes k e = ap length (counted bytes k e) ∙ length-map-range_with_len (entry_at bytes k) 0 k

pub few_entries : (bytes : List ℕ) (k : ℕ) → length (block_entries bytes k) ≤ 64
few_entries bytes k =
    ⊎_elim (λ e. omega (arith, length_entries bytes k e, (fits_says k (length bytes) e).few)) (λ e. omega (arith, ap length (not_counted bytes k e))) (cases_Bool (fits k (length bytes)))

-- where a slot has an entry, the memory fits, and the slot is below the count
pub sized : (bytes : List ℕ) (k x : ℕ) → x < length (block_entries bytes k) → fits k (length bytes) ≡ true
sized bytes k x lt = ⊎_elim (λ e. e) (λ e. absurd (omega (arith, ap length (not_counted bytes k e)))) (cases_Bool (fits k (length bytes)))

pub below_count : (bytes : List ℕ) (k x : ℕ) → x < length (block_entries bytes k) → x < k
below_count bytes k x lt = omega (arith, length_entries bytes k (sized bytes k x lt))

-- the block of a slot below the count lies in the memory
pub room : (k size x : ℕ) → fits k size ≡ true → x < k → 512 * (x / 32) + 512 ≤ size
room k size x e lt = let f = fits_says k size e in omega arith

pub got_entry : (bytes : List ℕ) (k x : ℕ) → x < length (block_entries bytes k) → got (block_entries bytes k) x ≡ answer (entry_at bytes k x)
got_entry bytes k x lt =
    let e = sized bytes k x lt in
    got_inside (block_entries bytes k) x (entry_at bytes k x) lt
    ∙ ap (λ l. answer (slice_index_or l x (entry_at bytes k x))) (counted bytes k e)
    ∙ ap answer (get_or-map-range_with_len (entry_at bytes k) 0 k x x (entry_at bytes k x) (below_count bytes k x lt) (zero-add x))

-- a rule comes only from a block without damage
no_damage : (fault : Option Fault) (rule : Option Rule) (n : ℕ) (q : Rule) → answer (entry_in fault rule n) ≡ Ok q → fault ≡ None
no_damage (Some fault) rule n q e = absurd (let z : ◌≡◌ {A = ℕ} 0 1 = cc in omega arith)
no_damage None rule n q e = refl

-- a memory of k slots in which slot x is written
module _ (bytes : List ℕ) (k x : ℕ) (r q : Rule) (e : fits k (length bytes) ≡ true) (lt : x < k) (found : answer (entry_at bytes k x) ≡ Ok q) where
  abbrev old : List ℕ
  old = block_at bytes (x / 32)

  abbrev new : List ℕ
  new = rewritten old (x % 32) r

  long_old : length old ≡ 512
  long_old = length-between bytes (512 * (x / 32)) (512 * (x / 32) + 512) (room k (length bytes) x e lt) ∙ omega arith

  long_new : length new ≡ 512
  long_new = length_rewritten old (x % 32) r long_old (omega arith)

  as_part : with_rule bytes x r ≡ put_mid (512 * (x / 32)) 512 bytes new
  as_part = sym (put_mid-paste (512 * (x / 32)) 512 bytes new new 512 refl refl (sym long_new))

  pub length_with : length (with_rule bytes x r) ≡ length bytes
  length_with = length-paste bytes (512 * (x / 32)) new 512 (room k (length bytes) x e lt) (omega (arith, long_new))

  here : block_at (with_rule bytes x r) (x / 32) ≡ new
  here = ap (λ l. block_at l (x / 32)) as_part ∙ between-put_mid (512 * (x / 32)) 512 bytes new (512 * (x / 32) + 512) (omega (arith, room k (length bytes) x e lt)) (omega (arith, long_new))

  elsewhere : (n : ℕ) → (n ≢ x / 32) → block_at (with_rule bytes x r) n ≡ block_at bytes n
  elsewhere n ne =
      ap (λ l. block_at l n) as_part
      ∙ ⊎_elim (λ same. absurd (ne same))
      (⊎_elim
      (λ below. between_is _ (512 * n) (512 * n + 512) ∙ ap (λ l. drop (512 * n) l) (take-put_mid_below (512 * (x / 32)) 512 bytes new (512 * n + 512) (omega arith) (omega (arith, room k (length bytes) x e lt))) ∙ sym (between_is bytes (512 * n) (512 * n + 512)))
      (λ above. ap (λ l. take (512 * n + 512 - 512 * n) l) (drop-put_mid (512 * (x / 32)) 512 bytes new (512 * n) (omega arith) (omega (arith, room k (length bytes) x e lt)) long_new)))
      (cases_order n (x / 32))

  right_old : damage_of old (x / 32) (slots_in k (x / 32)) ≡ None
  unfolding entry_at
  right_old = no_damage _ _ _ q found

  within : x % 32 < slots_in k (x / 32)
  within = omega arith

  right_new : damage_of new (x / 32) (slots_in k (x / 32)) ≡ None
  right_new = right_rewritten old (x / 32) (slots_in k (x / 32)) (x % 32) r long_old within (omega arith) right_old

  entry_written : entry_at (with_rule bytes x r) k x ≡ Intact r
  unfolding entry_at
  entry_written =
      ap (λ b. entry_in (damage_of b (x / 32) (slots_in k (x / 32))) (rule_at b (x % 32)) (x / 32)) here
      ∙ ap (λ o. entry_in o (rule_at new (x % 32)) (x / 32)) right_new
      ∙ ap (λ o. entry_in None o (x / 32)) (rule_rewritten old (x % 32) r long_old (omega arith))

  beside : (y : ℕ) → y / 32 ≡ x / 32 → (y ≢ x) → entry_at (with_rule bytes x r) k y ≡ entry_at bytes k y
  unfolding entry_at
  beside y same ne =
      let whole = λ (b : List ℕ) (n : ℕ). entry_in (damage_of b n (slots_in k n)) (rule_at b (y % 32)) n in
      ap (λ n. whole (block_at (with_rule bytes x r) n) n) same
      ∙ ap (λ b. whole b (x / 32)) here
      ∙ ap (λ o. entry_in o (rule_at new (y % 32)) (x / 32)) (right_new ∙ sym right_old)
      ∙ ap (λ o. entry_in (damage_of old (x / 32) (slots_in k (x / 32))) o (x / 32)) (other_rewritten old (x % 32) (y % 32) r long_old (omega arith) (λ z. ne (omega arith)))
      ∙ ap (λ n. whole (block_at bytes n) n) (sym same)

  apart : (y : ℕ) → (y / 32 ≢ x / 32) → entry_at (with_rule bytes x r) k y ≡ entry_at bytes k y
  unfolding entry_at
  apart y ne = ap (λ b. entry_in (damage_of b (y / 32) (slots_in k (y / 32))) (rule_at b (y % 32)) (y / 32)) (elsewhere (y / 32) ne)

  entry_other : (y : ℕ) → (y ≢ x) → entry_at (with_rule bytes x r) k y ≡ entry_at bytes k y
  entry_other y ne = ⊎_elim (λ same. beside y same ne) (λ other. apart y other) (cases_eq (y / 32) (x / 32))

  pub set_entry : block_entries (with_rule bytes x r) k ≡ slice_set (block_entries bytes k) x (Intact r)
  set_entry =
      let after = map (entry_at (with_rule bytes x r) k) (range_with_len 0 k) in
      let before = map (entry_at bytes k) (range_with_len 0 k) in
      let long = length-map-range_with_len (entry_at bytes k) 0 k in
      let long_after = length-map-range_with_len (entry_at (with_rule bytes x r) k) 0 k in
      counted (with_rule bytes x r) k (ap (fits k) length_with ∙ e)
      ∙ same_lists after (slice_set before x (Intact r)) (long_after ∙ sym (length-set before x (Intact r) ∙ long))
      (λ y d h.
      let small : y < k = omega (arith, long_after) in
      get_or-map-range_with_len (entry_at (with_rule bytes x r) k) 0 k y y d small (zero-add y)
      ∙ ⊎_elim
      (λ same. ap (entry_at (with_rule bytes x r) k) same ∙ entry_written ∙ sym (ap (λ z. get_or (slice_set before x (Intact r)) z d) same ∙ get_or-set_same before x (Intact r) d (omega (arith, long))))
      (λ ne. entry_other y ne ∙ sym (get_or-set_other before x y (Intact r) d ne ∙ get_or-map-range_with_len (entry_at bytes k) 0 k y y d small (zero-add y)))
      (cases_eq y x))
      ∙ ap (λ l. set l x (Intact r)) (sym (counted bytes k e))
