use Rattle.std.proofs.Common.{rules, arith}
use Rattle.calls.specs.Effects.{finished}
use Rattle.queue.specs.Entries.{change_view}
use Rattle.queue.proofs.Filtered.{changed_more}
use Rattle.queue.proofs.Queue.finish.Goals as goal

pub loop-change-preserved : goal.loop-change-preserved
loop-change-preserved c =
    (changed_more change_view (finished c.args.session) c.loop-change.change-items _ c.loop-change.change-index c.finished.result _ (omega arith) c.loop-change.invariant.1 c.loop-change.invariant.0 c.finished.ensures, search rules)
