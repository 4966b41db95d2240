-- What each call answers, and a call with its checks, its effect and its answer. Assumes nothing.
use Rattle.std.specs.Prelude.{ℕ, ◌-◌, length, Some, None, Option}
use Rattle.std.specs.Option.{option_or}
use Rattle.refusal.specs.declared.Refusal.{Refusal}
use Rattle.rule.specs.declared.Rule.{Rule}
use Rattle.calls.specs.State.{Session, State, noticed}
use Rattle.calls.specs.Words.{
  Call,
  Answer,
  begin,
  fetch,
  read,
  write,
  drop,
  forward,
  commit,
  abort,
  learn,
  receipt,
  truncate,
  done,
  rule,
  place,
  number,
  learnt,
  removed,
  refused,
}
use Rattle.calls.specs.Checks.{first_cause, count, desk_of, checks}
use Rattle.calls.specs.Effects.{rule_in, number_after, ends_change, queue_after, effect}

-- the rule that a read shows: the staged one if the slot is written, else the copy
abbrev pub shown : Session → ℕ → Option Rule
shown p x = option_or (p.work.staged x) (p.desk.copies x)

-- a rule as an answer
abbrev pub rule_answer : Option Rule → Answer
rule_answer None = done
rule_answer (Some r) = rule r

-- what each call answers where no check turns it away
abbrev pub value : State → Call → Answer
value b (begin s) = done
value b (fetch s x) = rule_answer (rule_in b.entries x)
value b (read s x) = rule_answer (shown (b.sessions s) x)
value b (write s x r) = done
value b (drop s x) = done
value b (forward s k) = place (length b.queue)
value b (commit s) = number (number_after b s)
value b (abort s) = done
value b (learn s) = learnt b.number (noticed (desk_of b s)) (ends_change (count b) (b.sessions s))
value b (receipt s n) = done
value b (truncate k) = removed (length b.queue - length (queue_after b k))

-- a call that is turned away leaves the state as it was
abbrev pub turned_away : Refusal → State → State
turned_away e b = b

-- the answer, by the cause that the checks found
abbrev pub answer_where : Option Refusal → State → Call → Answer
answer_where None b c = value b c
answer_where (Some e) b c = refused e

-- the state afterwards, by the cause that the checks found
abbrev pub after_where : Option Refusal → State → Call → State
after_where None b c = effect b c
after_where (Some e) b c = turned_away e b

-- what a call answers
abbrev pub answer : State → Call → Answer
answer b c = answer_where (first_cause (checks b c)) b c

-- the state after a call
abbrev pub after : State → Call → State
after b c = after_where (first_cause (checks b c)) b c
