use Rattle.std.proofs.Common.{append_assoc, rules}
use Rattle.rule.proofs.texts.push_network.Goals as goal

pub returns : goal.returns
returns c = search (rules, append_assoc)
