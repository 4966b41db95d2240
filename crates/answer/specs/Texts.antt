-- The text of an answer: the line's number, the result, and then the value, or layer and place. Assumes nothing.
use Rattle.std.specs.Prelude.{ℕ, cond, List, [], ◌∷◌, ◌++◌, Ok, Err, Result, decimal}
use Rattle.refusal.specs.Table.{line}
use Rattle.rule.specs.Text.{text}
use Rattle.slots.specs.Meaning.{has}
use Rattle.protocol.specs.declared.Learnt as learnt
use Rattle.protocol.specs.declared.Reply.{Reply}
use Rattle.protocol.specs.declared.Reply.TheVariants.{Done, Got, Queued, Numbered, Learnt, Removed}
use Rattle.refusal.specs.declared.Refusal.{Refusal}
use Rattle.answer.specs.declared.AnswerLine.{AnswerLine}
use Rattle.answer.specs.Slots.{slots_text}

-- the number learnt, the slots, and 1 where a change ended
abbrev pub learnt_text : learnt.Learnt → List ℕ
learnt_text l = decimal l.number ++ (32 ∷ slots_text (has l.slots) ++ (32 ∷ decimal (cond l.ended 1 0)))

-- the value that a call gave, behind a space; nothing, where it gave none
abbrev pub reply_text : Reply → List ℕ
reply_text Done = []
reply_text (Got rule) = 32 ∷ text rule
reply_text (Queued place) = 32 ∷ decimal place
reply_text (Numbered number) = 32 ∷ decimal number
reply_text (Learnt l) = 32 ∷ learnt_text l
reply_text (Removed count) = 32 ∷ decimal count

-- the result is 0 where the call is done, and else the number of the refusal, before its layer and place
abbrev pub answer_text : Result Reply Refusal → List ℕ
answer_text (Ok reply) = 48 ∷ reply_text reply
answer_text (Err refusal) = line refusal

abbrev pub line_text : AnswerLine → List ℕ
line_text a = decimal a.line ++ (32 ∷ answer_text a.answer)
