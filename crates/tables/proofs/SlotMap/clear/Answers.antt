use Rattle.std.proofs.Common.{rules}
use Rattle.tables.proofs.Tables.{at_empty}
use Rattle.tables.proofs.SlotMap.clear.Goals as goal

pub returns : goal.returns
returns g c = search (rules, at_empty)
