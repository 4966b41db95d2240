use Rattle.std.proofs.Common.{rules}
use Rattle.calls.specs.Effects.{dropped}
use Rattle.session.proofs.Rows.{slot_changed}
use Rattle.session.proofs.table.Sessions.release.Goals as goal

pub returns : goal.returns
returns c = slot_changed c.args.slot (dropped c.args.slot) c.change.ensures (λ a r b p. search rules)
