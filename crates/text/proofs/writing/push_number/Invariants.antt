use Rattle.text.proofs.Spelling.{Begun}
use Rattle.text.proofs.writing.push_number.Given as goal

abbrev pub invariant-loop-left : goal.invariant-loop-left
invariant-loop-left l = Begun l.number l.left l.from l.digits

abbrev pub decreases-loop-left : goal.decreases-loop-left
decreases-loop-left l = l.left
