use Rattle.std.proofs.Common.{ap, ◌∙◌, arith}
use Rattle.block.specs.Layout.{with_record, sealed}
use Rattle.block.proofs.LaidOut.{unsealed_open, laid_open}
use Rattle.block.proofs.formatting.format_block.Goals as goal

pub loop-i-preserved : goal.loop-i-preserved
loop-i-preserved c =
    let head = c.args.head in
    c.copy_record.ensures ∙ ap (with_record c.loop-i.block c.loop-i.i) c.open.ensures ∙ unsealed_open head.number head.slots c.loop-i.i c.loop-i.block c.loop-i.invariant

pub returns : goal.returns
returns c =
    let head = c.args.head in
    c.seal.ensures ∙ ap sealed c.loop-i.invariant ∙ laid_open head.number head.slots c.loop-i.i (omega arith)
