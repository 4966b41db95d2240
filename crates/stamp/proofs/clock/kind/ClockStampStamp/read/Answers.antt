use Rattle.std.proofs.Common.{rules}
use Rattle.stamp.specs.TextsLemmas.{some_clock}
use Rattle.stamp.proofs.clock.kind.ClockStampStamp.read.Goals as goal

pub returns : goal.returns
returns c = some_clock _ _ (search rules)
