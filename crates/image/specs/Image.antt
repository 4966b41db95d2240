-- The count of an image, and what it takes to open one. Assumes nothing.
use Rattle.std.specs.Prelude.{ℕ, ◌+◌, ◌*◌, cond, ◌&&◌, List, length, Ok, Err, Result, ◌==◌, nat_le, slice_index}
use Rattle.refusal.specs.declared.Fault.TheVariants.{Head}
use Rattle.refusal.specs.declared.Refusal.{Refusal}
use Rattle.refusal.specs.declared.Refusal.TheVariants.{WrongSize, Damaged}
use Rattle.store.specs.Entries.{whole}
use Rattle.block.specs.Memory.{block_entries}

-- the count of an image with n whole blocks before its last one, whose byte 3 is this
abbrev pub count_with : ℕ → ℕ → Result ℕ Refusal
count_with n last = cond (nat_le 1 last && nat_le last 32) (Ok (32 * n + last)) (Err (Damaged (record { fault = Head; block = n })))

-- one block or two; each but the last has 32 slots, and the last as many as its byte 3 says
abbrev pub image_count : List ℕ → Result ℕ Refusal
image_count bytes =
    cond (length bytes == 512) (count_with 0 (slice_index bytes 3))
    (cond (length bytes == 1024) (count_with 1 (slice_index bytes 515)) (Err WrongSize))

abbrev pub if_whole : ℕ → Result (Unit {0}) Refusal → Result ℕ Refusal
if_whole k (Ok u) = Ok k
if_whole k (Err e) = Err e

abbrev pub check_with : List ℕ → Result ℕ Refusal → Result ℕ Refusal
check_with bytes (Ok k) = if_whole k (whole (block_entries bytes k))
check_with bytes (Err e) = Err e

-- the count, if it can be told and no slot is damaged; else the first damage
abbrev pub image_check : List ℕ → Result ℕ Refusal
image_check bytes = check_with bytes (image_count bytes)
