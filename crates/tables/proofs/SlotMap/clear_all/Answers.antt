use Rattle.std.proofs.Common.{refl}
use Rattle.tables.proofs.Tables.{clear_is}
use Rattle.tables.proofs.SlotMap.clear_all.Goals as goal

pub returns : goal.returns
returns g c = clear_is _ _ _ refl c.difference-self.ensures
