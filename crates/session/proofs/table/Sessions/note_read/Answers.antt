use Rattle.std.proofs.Common.{rules}
use Rattle.calls.specs.Effects.{having_read}
use Rattle.session.proofs.Rows.{slot_changed}
use Rattle.session.proofs.table.Sessions.note_read.Goals as goal

pub returns : goal.returns
returns c = slot_changed c.args.slot (having_read c.args.slot) c.change.ensures (λ a r b p. search rules)
