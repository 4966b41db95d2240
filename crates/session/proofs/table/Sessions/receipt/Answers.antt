use Rattle.std.proofs.Common.{rules}
use Rattle.calls.specs.Effects.{receipted}
use Rattle.session.proofs.Rows.{record_changed}
use Rattle.session.proofs.table.Sessions.receipt.Goals as goal

pub returns : goal.returns
returns c = record_changed (receipted c.args.number) c.change.ensures (λ a r b p. search rules)
