-- The chunks of a list, one by one. Assumes nothing.
use Rattle.std.proofs.Common.{◌≡◌, ℕ, zero, suc, ◌+◌, ◌-◌, ◌*◌, ◌/◌, ◌<◌, true, List, ◌++◌, length, get_or, take, drop, refl, ap, ◌∙◌, arith}
use borrow.Rule.Slice.PartMut.{put_mid}
use Rattle.std.specs.Simd.{first_chunks}
use Rattle.std.proofs.lemmas.List.{drop-drop}
use Rattle.block.specs.Memory.{fits, block_at}
use Rattle.block.specs.Memories.{room}

pub length_chunks : (n k : ℕ) (xs : List ℕ) → length (first_chunks n k xs) ≡ k
length_chunks n zero xs = refl
length_chunks n (suc k) xs = ap suc (length_chunks n k (drop n xs))

pub chunk_at : (n k i : ℕ) (xs d : List ℕ) → i < k → get_or (first_chunks n k xs) i d ≡ take n (drop (n * i) xs)
chunk_at n zero i xs d h = absurd (omega arith)
chunk_at n (suc k) zero xs d h = let none : 0 ≡ n * 0 = omega arith in ap (λ m. take n (drop m xs)) none
chunk_at n (suc k) (suc i) xs d h =
    let next : n + n * i ≡ n * suc i = omega arith in
    chunk_at n k i (drop n xs) d (omega arith) ∙ ap (take n) (drop-drop (n * i) n xs) ∙ ap (λ m. take n (drop m xs)) next

-- the block of a slot below the count
pub block_chunk : (bytes : List ℕ) (k x : ℕ) (d : List ℕ) → fits k (length bytes) ≡ true → x < k → get_or (first_chunks 512 (length bytes / 512) bytes) (x / 32) d ≡ block_at bytes (x / 32)
block_chunk bytes k x d e lt =
    let whole : 512 ≡ 512 * (x / 32) + 512 - 512 * (x / 32) = omega arith in
    chunk_at 512 (length bytes / 512) (x / 32) bytes d (omega (arith, room k (length bytes) x e lt)) ∙ ap (λ m. take m (drop (512 * (x / 32)) bytes)) whole

-- a list that is split, and of whose back a block is written
pub split_put : (bytes front back block : List ℕ) (at : ℕ) → front ≡ take at bytes → back ≡ drop at bytes → front ++ (block ++ drop 512 back) ≡ put_mid at 512 bytes block
split_put bytes front back block at e f = cc
