use Rattle.std.proofs.Common.{[], ◌∷◌}
use Rattle.text.proofs.Appending.{appends_more}
use Rattle.answer.proofs.push_rule_given.Goals as goal

pub returns : goal.returns
returns c = appends_more _ (48 ∷ 32 ∷ []) _ _ _ _ c.in_ok-extend_from_slice.ensures.items c.push_text.ensures
