-- A store of k slots in a memory of blocks: which memory fits, what it means, and what is written to it. Assumes nothing.
use Rattle.std.specs.Prelude.{ℕ, ◌+◌, ◌-◌, ◌*◌, ◌/◌, ◌%◌, min, Bool, cond, ◌&&◌, List, [], map, length, replicate, is_ok, Some, None, Ok, Err, Option, Result, ◌==◌, nat_le}
use Rattle.std.specs.List.{range_with_len, between, flat_map}
use Rattle.std.proofs.Math.Seq.{paste}
use Rattle.refusal.specs.declared.Fault.{Fault}
use Rattle.refusal.specs.declared.Fault.TheVariants.{Record}
use Rattle.refusal.specs.declared.Refusal.{Refusal}
use Rattle.refusal.specs.declared.Refusal.TheVariants.{WrongSize}
use Rattle.rule.specs.declared.Rule.{Rule}
use Rattle.rule.specs.Making.{open_rule}
use Rattle.store.specs.declared.Entry.{Entry}
use Rattle.store.specs.declared.Entry.TheVariants.{Intact, Broken}
use Rattle.store.specs.Entries.{got}
use Rattle.block.specs.Layout.{rule_at, damage_of, rewritten, laid_out}

-- a store has 1 to 64 slots
abbrev pub counts : ℕ → Bool
counts k = nat_le 1 k && nat_le k 64

-- k slots fill so many blocks
abbrev pub blocks : ℕ → ℕ
blocks k = (k + 31) / 32

-- and so many of them lie in block n
abbrev pub slots_in : ℕ → ℕ → ℕ
slots_in k n = min 32 (k - 32 * n)

-- the bytes that k slots take
abbrev pub size_for : ℕ → Result ℕ Refusal
size_for k = cond (counts k) (Ok (512 * blocks k)) (Err WrongSize)

-- whether so many bytes are a memory of k slots
abbrev pub fits : ℕ → ℕ → Bool
fits k size = counts k && size == 512 * blocks k

-- the check before a store is made
abbrev pub checked : ℕ → ℕ → Result (Unit {0}) Refusal
checked k size = cond (fits k size) (Ok tt) (Err WrongSize)

-- block n of a memory
abbrev pub block_at : List ℕ → ℕ → List ℕ
block_at bytes n = between (512 * n) (512 * n + 512) bytes

-- the rule in a record of a block, or what is wrong with the block; in a block without damage each record below the number of slots holds a rule
abbrev pub read_in : Option Fault → Option Rule → Result Rule Fault
read_in (Some fault) rule = Err fault
read_in None (Some rule) = Ok rule
read_in None None = Err Record

-- a damaged block damages all its slots
abbrev pub entry_from : Result Rule Fault → ℕ → Entry
entry_from (Ok rule) n = Intact rule
entry_from (Err fault) n = Broken (record { fault = fault; block = n })

abbrev pub entry_in : Option Fault → Option Rule → ℕ → Entry
entry_in fault rule n = entry_from (read_in fault rule) n

-- slot x is record x % 32 of block x / 32
unfoldable pub entry_at : List ℕ → ℕ → ℕ → Entry
entry_at bytes k x =
    entry_in (damage_of (block_at bytes (x / 32)) (x / 32) (slots_in k (x / 32))) (rule_at (block_at bytes (x / 32)) (x % 32)) (x / 32)

-- what the memory means: nothing, where the check refuses it
abbrev pub block_entries : List ℕ → ℕ → List Entry
block_entries bytes k = cond (fits k (length bytes)) (map (entry_at bytes k) (range_with_len 0 k)) []

-- the memory with one record and the check of its block written
abbrev pub with_rule : List ℕ → ℕ → Rule → List ℕ
with_rule bytes x r = paste bytes (512 * (x / 32)) (rewritten (block_at bytes (x / 32)) (x % 32) r) 512

-- the memory after `put` of rule r into slot x
abbrev pub put_bytes : List ℕ → ℕ → ℕ → Rule → List ℕ
put_bytes bytes k x r = cond (is_ok (got (block_entries bytes k) x)) (with_rule bytes x r) bytes

-- a memory of k open rules
abbrev pub formatted : ℕ → List ℕ
formatted k = flat_map (λ n. laid_out n (replicate (slots_in k n) open_rule)) (range_with_len 0 (blocks k))

-- the memory after formatting for k slots
abbrev pub format_bytes : List ℕ → ℕ → List ℕ
format_bytes bytes k = cond (fits k (length bytes)) (formatted k) bytes
