use Rattle.std.proofs.Common.{◌+◌, arith}
use Rattle.std.proofs.lemmas.List.{take_rest}
use Rattle.text.proofs.Cuts.{split_first}
use Rattle.text.proofs.split_once.Goals as goal

pub returns : goal.returns
returns c = let rest = take_rest c.args.bytes.now (c.in_ok-place.place + 1) in grind (arith, split_first)
