use Rattle.std.proofs.Common.{rules}
use Rattle.calls.specs.Effects.{having_written}
use Rattle.session.proofs.Rows.{slot_changed}
use Rattle.session.proofs.table.Sessions.write.Goals as goal

pub returns : goal.returns
returns c = slot_changed c.args.slot (having_written c.args.slot c.args.rule) c.change.ensures (λ a r b p. search rules)
