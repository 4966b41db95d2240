use Rattle.std.proofs.Common.{rules}
use Rattle.rule.proofs.Rules.{made_none, made_rule}
use Rattle.rule.proofs.making.RuleTryFromParts.try_from.Goals as goal

pub returns-in_err-action : goal.returns-in_err-action
returns-in_err-action c = search (rules, made_none)

pub returns-then-prefix-gt32 : goal.returns-then-prefix-gt32
returns-then-prefix-gt32 c = made_none _ (search rules)

pub returns : goal.returns
returns c = made_rule _ _ (search rules)
