use Rattle.std.proofs.Common.{append_assoc, rules}
use Rattle.answer.proofs.push_learnt.Goals as goal

pub returns-in_err-push_slots : goal.returns-in_err-push_slots
returns-in_err-push_slots c = search (rules, append_assoc)

pub returns-in_err-push-2 : goal.returns-in_err-push-2
returns-in_err-push-2 c = search (rules, append_assoc)

pub returns : goal.returns
returns c = search (rules, append_assoc)
