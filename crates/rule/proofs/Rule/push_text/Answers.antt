use Rattle.std.proofs.Common.{[], ◌∷◌, append_assoc, rules}
use Rattle.text.proofs.Appending.{appends_more}
use Rattle.rule.specs.Text.{network_text, action_text}
use Rattle.rule.proofs.Rule.push_text.Goals as goal

pub returns-in_err-push_action : goal.returns-in_err-push_action
returns-in_err-push_action c = search (rules, append_assoc)

pub returns-in_err-push-2 : goal.returns-in_err-push-2
returns-in_err-push-2 c = search (rules, append_assoc)

pub returns : goal.returns
returns c =
    appends_more _ (network_text c.args.self.address c.args.self.prefix) _ _ _ _ c.in_ok-push_network.ensures
    (appends_more _ (32 ∷ []) _ _ _ _ c.in_ok-push.ensures.items
    (appends_more _ (action_text c.args.self.action) _ _ _ _ c.in_ok-push_action.ensures
    (appends_more _ (32 ∷ []) _ _ _ _ c.in_ok-push-2.ensures.items c.push_ports.ensures)))
