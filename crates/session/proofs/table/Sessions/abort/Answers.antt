use Rattle.std.proofs.Common.{rules}
use Rattle.calls.specs.Effects.{aborted}
use Rattle.session.proofs.Rows.{record_changed}
use Rattle.session.proofs.table.Sessions.abort.Goals as goal

pub returns : goal.returns
returns c = record_changed aborted c.change.ensures (λ a r b p. search rules)
