use Rattle.std.proofs.Common.{◌≡◌, replicate}
use Rattle.rule.specs.Making.{open_rule}
use Rattle.block.proofs.LaidOut.{unsealed}
use Rattle.block.proofs.formatting.format_block.Given as goal

abbrev pub invariant-loop-i : goal.invariant-loop-i
invariant-loop-i l = l.block ≡ unsealed l.fn.head.number l.fn.head.slots (replicate l.i open_rule)
