use Rattle.std.proofs.Common.{◌≡◌, drop, vec_items}
use Rattle.store.specs.Entries.{whole}
use Rattle.block.specs.Memory.{block_entries}
use Rattle.block.proofs.block_store.BlockStore.check_entries.Given as goal

abbrev pub invariant-loop-slot : goal.invariant-loop-slot
invariant-loop-slot l = whole (drop l.slot (block_entries (vec_items l.self.bytes) l.self.count)) ≡ whole (block_entries (vec_items l.self.bytes) l.self.count)
