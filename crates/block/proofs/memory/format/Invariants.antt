use Rattle.std.proofs.Common.{◌≡◌, ◌*◌, take}
use Rattle.block.proofs.Formatted.{formatted_below}
use Rattle.block.proofs.memory.format.Given as goal

abbrev pub invariant-loop-number : goal.invariant-loop-number
invariant-loop-number l = take (512 * l.number) l.bytes ≡ formatted_below l.count l.number
