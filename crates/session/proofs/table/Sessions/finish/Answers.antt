use Rattle.std.proofs.Common.{rules}
use Rattle.calls.specs.Effects.{committed}
use Rattle.session.proofs.Rows.{record_changed}
use Rattle.session.proofs.table.Sessions.finish.Goals as goal

pub returns : goal.returns
returns c = record_changed committed c.change.ensures (λ a r b p. search rules)
