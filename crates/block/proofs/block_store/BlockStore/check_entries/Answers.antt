use Rattle.std.proofs.Common.{vec_items, sym, ◌∙◌}
use Rattle.store.specs.Slots.{whole_more}
use Rattle.block.specs.Memory.{block_entries}
use Rattle.block.proofs.block_store.BlockStore.check_entries.Goals as goal

pub loop-slot-preserved : goal.loop-slot-preserved
loop-slot-preserved c =
    let l = block_entries (vec_items c.args.self.now.bytes) c.args.self.now.count in
    sym (whole_more l c.loop-slot.slot _ (sym c.in_ok-rule_at.ensures)) ∙ c.loop-slot.invariant
