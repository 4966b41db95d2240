use Rattle.std.proofs.Common.{rules, Some}
use Rattle.calls.specs.Effects.{fetched}
use Rattle.session.proofs.Rows.{slot_changed}
use Rattle.session.proofs.table.Sessions.fetch.Goals as goal

pub returns : goal.returns
returns c = slot_changed c.args.slot (fetched c.args.slot (Some c.args.rule)) c.change.ensures (λ a r b p. search rules)
