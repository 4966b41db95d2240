use Rattle.std.proofs.Common.{append_assoc, rules}
use Rattle.answer.proofs.slot_list.push_entry.Goals as goal
use Rattle.answer.proofs.slot_list.push_entry.Goals.{then-more+in_ok-push, else-more}

pub returns : goal.returns
returns c = elim c.if-more.branch [ then-more+in_ok-push w ↦ search (rules, append_assoc) | else-more w ↦ search (rules, append_assoc) ]
