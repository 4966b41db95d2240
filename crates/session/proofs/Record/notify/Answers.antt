use Rattle.std.proofs.Common.{◌∙◌, ap}
use Rattle.slots.specs.Meaning.{has}
use Rattle.tables.specs.Meaning.{at, shared, marked}
use Rattle.session.proofs.Record.notify.Goals as goal

pub returns : goal.returns
returns c = rw (c.mark.ensures ∙ ap (λ s. marked s c.args.number (at c.args.self.now.notices)) (c.intersection-told.ensures ∙ ap (shared (has c.args.slots)) c.slots.ensures))
