-- The count that an image tells fits its size. Assumes nothing.
use Rattle.std.proofs.Common.{◌≡◌, ℕ, ◌+◌, ◌*◌, ◌/◌, ◌%◌, ◌≤◌, Bool, true, false, cond, ◌&&◌, eqb, leb, ◌⊎◌, List, [], length, get_or, slice_index, drop, Ok, Err, Result, refl, sym, ap, ◌∙◌, inl, inr, ⊎_elim, arith}
use Rattle.std.specs.Simd.{first_chunks}
use Rattle.std.proofs.lemmas.List.{get_or-take, get_or-drop}
use Rattle.std.proofs.lemmas.Bool.{and_parts, and_from, leb-true, le-leb, eqb-true, eq-eqb, ne_eqb, cond-true, cond-false}
use Rattle.refusal.specs.declared.Refusal.{Refusal}
use Rattle.block.specs.Memory.{blocks, fits, block_entries}
use Rattle.block.specs.Memories.{length_entries}
use Rattle.image.specs.Image.{count_with, image_count}

-- two whole blocks, the second of which tells its slots
pub two_blocks : (bytes : List ℕ) → length bytes / 512 ≡ 2 → length bytes % 512 ≡ 0 → count_with 1 (slice_index (get_or (first_chunks 512 (length bytes / 512) bytes) 1 []) 3) ≡ image_count bytes
two_blocks bytes two whole =
    let long : length bytes ≡ 1024 = omega arith in
    let byte : slice_index (get_or (first_chunks 512 (length bytes / 512) bytes) 1 []) 3 ≡ slice_index bytes 515 =
    ap (λ n. slice_index (get_or (first_chunks 512 n bytes) 1 []) 3) two ∙ get_or-take 512 (drop 512 bytes) 3 0 (omega arith) ∙ get_or-drop 512 bytes 3 0 in
    ap (count_with 1) byte
    ∙ sym (cond-false _ _ _ (ne_eqb (length bytes) 512 (λ e. omega arith)) ∙ cond-true _ _ _ (eq-eqb (length bytes) 1024 long))

-- which of the two came
either : (b : Bool) (x y z : Result ℕ Refusal) → cond b x y ≡ z → ((b ≡ true) × (x ≡ z)) ⊎ ((b ≡ false) × (y ≡ z))
either true x y z e = inl (refl, e)
either false x y z e = inr (refl, e)

refused : {P : Type 0} (why : Refusal) (k : ℕ) → Err why ≡ Ok k → P
refused why k e = absurd (let z : ◌≡◌ {A = ℕ} 0 1 = cc in omega arith)

-- n whole blocks, and a last one that tells its slots
with_last : (n last k size : ℕ) → n ≤ 1 → size ≡ 512 * n + 512 → count_with n last ≡ Ok k → fits k size ≡ true
with_last n last k size few whole told =
    ⊎_elim
    (λ way.
    let both = and_parts (leb 1 last) (leb last 32) way.0 in
    let some = leb-true 1 last both.0 in
    let most = leb-true last 32 both.1 in
    let ok = way.1 in
    let is : 32 * n + last ≡ k = cc in
    and_from _ _ (and_from _ _ (le-leb 1 k (omega arith)) (le-leb k 64 (omega arith))) (eq-eqb size (512 * blocks k) (omega arith)))
    (λ way. refused _ k way.1)
    (either (leb 1 last && leb last 32) _ _ (Ok k) told)

pub count_fits : (bytes : List ℕ) (k : ℕ) → image_count bytes ≡ Ok k → fits k (length bytes) ≡ true
count_fits bytes k told =
    ⊎_elim
    (λ one. with_last 0 (get_or bytes 3 0) k (length bytes) (omega arith) (eqb-true (length bytes) 512 one.0) one.1)
    (λ more. ⊎_elim
    (λ two. with_last 1 (get_or bytes 515 0) k (length bytes) (omega arith) (eqb-true (length bytes) 1024 two.0) two.1)
    (λ none. refused _ k none.1)
    (either (eqb (length bytes) 1024) _ _ (Ok k) more.1))
    (either (eqb (length bytes) 512) _ _ (Ok k) told)

-- so each slot that the image tells of has an entry
pub all_slots : (bytes : List ℕ) (k : ℕ) → image_count bytes ≡ Ok k → length (block_entries bytes k) ≡ k
all_slots bytes k told = length_entries bytes k (count_fits bytes k told)
