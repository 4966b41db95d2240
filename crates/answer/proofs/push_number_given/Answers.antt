use Rattle.std.proofs.Common.{append_assoc, rules}
use Rattle.answer.proofs.push_number_given.Goals as goal

pub returns : goal.returns
returns c = search (rules, append_assoc)
