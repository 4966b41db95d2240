use Rattle.std.proofs.Common.{append_assoc, rules}
use Rattle.rule.proofs.texts.push_address.Goals as goal

pub returns-in_err-push_number-2 : goal.returns-in_err-push_number-2
returns-in_err-push_number-2 c = search (rules, append_assoc)

pub returns-in_err-push-2 : goal.returns-in_err-push-2
returns-in_err-push-2 c = search (rules, append_assoc)

pub returns-in_err-push_number-3 : goal.returns-in_err-push_number-3
returns-in_err-push_number-3 c = search (rules, append_assoc)

pub returns-in_err-push-3 : goal.returns-in_err-push-3
returns-in_err-push-3 c = search (rules, append_assoc)

pub returns : goal.returns
returns c = search (rules, append_assoc)
