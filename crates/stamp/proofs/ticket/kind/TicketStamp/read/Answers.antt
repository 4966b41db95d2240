use Rattle.std.proofs.Common.{rules}
use Rattle.stamp.specs.TextsLemmas.{some_ticket}
use Rattle.stamp.proofs.ticket.kind.TicketStamp.read.Goals as goal

pub returns : goal.returns
returns c = some_ticket _ _ (search rules)
