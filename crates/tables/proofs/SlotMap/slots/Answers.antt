use Rattle.tables.proofs.Tables.{slots_filled}
use Rattle.tables.proofs.SlotMap.slots.Goals as goal

pub returns : goal.returns
returns g c = slots_filled c.args.self.now
