use Rattle.std.proofs.Common.{rules}
use Rattle.tables.proofs.Tables.{at_empty, none_in}
use Rattle.tables.proofs.SlotMap.new.Goals as goal

pub invariant_of-result : goal.invariant_of-result
invariant_of-result g c = record { made = search (rules, none_in); full = tt }

pub returns : goal.returns
returns g c = search (rules, at_empty)
