use Rattle.std.proofs.Common.{refl}
use Rattle.tables.proofs.Tables.{remove_is}
use Rattle.tables.proofs.SlotMap.remove.Goals as goal

pub returns : goal.returns
returns g c = remove_is _ _ _ refl c.remove.ensures.value
