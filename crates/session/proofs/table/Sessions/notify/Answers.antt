use Rattle.std.proofs.Common.{rules}
use Rattle.slots.specs.Meaning.{has}
use Rattle.calls.specs.Effects.{notified}
use Rattle.session.proofs.Rows.{record_changed}
use Rattle.session.proofs.table.Sessions.notify.Goals as goal

pub returns : goal.returns
returns c = record_changed (notified (has c.args.slots) c.args.number) c.change.ensures (λ a r b p. search rules)
