use Rattle.std.proofs.Common.{sym}
use Rattle.calls.proofs.Steps.{law_of_reached}
use Rattle.book.specs.Views.{view}
use Rattle.script.proofs.do_line.Goals as goal

pub returns-in_err-call-clause-law : goal.returns-in_err-call-clause-law
returns-in_err-call-clause-law g c = λ s first h r. rw (sym c.in_err-call.ensures.value) (law_of_reached first h (view g.S.Reading c.args.book.now) r)
