use Rattle.std.proofs.Common.{◌<◌, length, vec_items, ap, ◌∙◌, arith}
use Rattle.block.specs.Memory.{fits, block_entries}
use Rattle.block.specs.Memories.{sized, below_count}
use Rattle.block.proofs.block_store.BlockStore.rule_at.Goals as goal

pub rule_in_slot-requires : goal.rule_in_slot-requires
rule_in_slot-requires c =
    let bytes = vec_items c.args.self.now.bytes in
    let k = c.args.self.now.count in
    let lt : c.args.slot < length (block_entries bytes k) = omega (arith, c.slots.ensures) in
    (ap (λ l. fits k (length l)) c.deref.ensures.value ∙ sized bytes k c.args.slot lt, below_count bytes k c.args.slot lt)
