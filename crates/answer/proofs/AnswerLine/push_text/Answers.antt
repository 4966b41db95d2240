use Rattle.std.proofs.Common.{[], ◌∷◌, decimal}
use Rattle.text.proofs.Appending.{appends_more}
use Rattle.answer.proofs.AnswerLine.push_text.Goals as goal

pub returns : goal.returns
returns c =
    appends_more _ (decimal c.args.self.line) _ _ _ _ c.in_ok-push_number.ensures
    (appends_more _ (32 ∷ []) _ _ _ _ c.in_ok-push.ensures.items c.push_answer.ensures)
