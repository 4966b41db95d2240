use Rattle.std.proofs.Common.{rules}
use Rattle.calls.specs.Effects.{put_forward}
use Rattle.session.proofs.Rows.{record_changed}
use Rattle.session.proofs.table.Sessions.put_forward.Goals as goal

pub returns : goal.returns
returns c = record_changed put_forward c.change.ensures (λ a r b p. search rules)
