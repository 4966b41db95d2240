-- Histories of calls with their answers, and the law of every run of calls. Assumes nothing.
-- A history has the latest event in front.
use Rattle.std.specs.Prelude.{◌≡◌, ℕ, ◌+◌, ◌≤◌, Bool, true, false, cond, List, [], ◌∷◌, map, length, Some, None, Option, ◌==◌}
use Rattle.refusal.specs.declared.Refusal.{Refusal}
use Rattle.refusal.specs.Table.{told}
use Rattle.rule.specs.declared.Rule.{Rule}
use Rattle.store.specs.declared.Entry.{Entry}
use Rattle.store.specs.declared.Entry.TheVariants.{Intact}
use Rattle.law.specs.Changes.{Key, Change, Explains, committed_of}
use Rattle.law.specs.Orders.{Reordering, FollowsStamps}
use Rattle.law.specs.Accounts.{Outcome, accepted, stale, withheld, Step, begins, takes, reads, writes, forwards, commits, strikes, passes, account}
use Rattle.law.specs.Law.{Law}
use Rattle.calls.specs.State.{pending, State, just_made}
use Rattle.calls.specs.Words.{
  Call,
  begin,
  fetch,
  read,
  write,
  drop,
  forward,
  commit,
  abort,
  learn,
  receipt,
  truncate,
  Answer,
  done,
  rule,
  place,
  number,
  learnt,
  removed,
  refused,
}
use Rattle.calls.specs.Checks.{count, work_of, owed, last_number, refused_get}
use Rattle.calls.specs.Calls.{answer, after}

-- a call with the answer that it got
pub record Event : Type 0 where
  pub call : Call
  pub answer : Answer

-- the call was turned away
abbrev pub is_refused : Answer → Bool
is_refused done = false
is_refused (rule r) = false
is_refused (place p) = false
is_refused (number n) = false
is_refused (learnt n slots ended) = false
is_refused (removed n) = false
is_refused (refused e) = true

-- the rule that was answered
abbrev pub rule_of : Answer → Option Rule
rule_of done = None
rule_of (rule r) = Some r
rule_of (place p) = None
rule_of (number n) = None
rule_of (learnt n slots ended) = None
rule_of (removed n) = None
rule_of (refused e) = None

-- the answer tells of a change that ended
abbrev pub tells_end : Answer → Bool
tells_end done = false
tells_end (rule r) = false
tells_end (place p) = false
tells_end (number n) = false
tells_end (learnt n slots ended) = ended
tells_end (removed n) = false
tells_end (refused e) = false

-- the number of the cause "stale"
abbrev pub stale_number : ℕ
stale_number = 14

-- the number of the one cause that is tried after it
abbrev pub exhausted_number : ℕ
exhausted_number = 15

-- what a refusal says of a change put forward; nothing, if its cause is tried before staleness
abbrev pub refused_outcome : Refusal → Option Outcome
refused_outcome e =
    cond ((told e).number == stale_number) (Some (stale (told e).place))
    (cond ((told e).number == exhausted_number) (Some withheld) None)

-- what an answer says of a change put forward
abbrev pub outcome : Answer → Option Outcome
outcome done = Some accepted
outcome (rule r) = Some accepted
outcome (place p) = Some accepted
outcome (number n) = Some accepted
outcome (learnt n slots ended) = Some accepted
outcome (removed n) = Some accepted
outcome (refused e) = refused_outcome e

-- a read with the rule that was answered, if one was
abbrev pub read_step : ℕ → ℕ → Option Rule → Step Rule
read_step s x None = passes
read_step s x (Some r) = reads s x r

-- a forward with what became of it, if it came as far as the test of staleness
abbrev pub forward_step : ℕ → Key → Option Outcome → Step Rule
forward_step s k None = passes
forward_step s k (Some o) = forwards s k o

-- the step, where the call was not refused
abbrev pub unless_refused : Answer → Step Rule → Step Rule
unless_refused a step = cond (is_refused a) passes step

-- what a call with its answer comes to
abbrev pub step_of : Call → Answer → Step Rule
step_of (begin s) a = unless_refused a (begins s)
step_of (fetch s x) a = unless_refused a (takes s x)
step_of (read s x) a = read_step s x (rule_of a)
step_of (write s x r) a = unless_refused a (writes s x r)
step_of (drop s x) a = passes
step_of (forward s k) a = forward_step s k (outcome a)
step_of (commit s) a = unless_refused a (commits s)
step_of (abort s) a = unless_refused a (strikes s)
step_of (learn s) a = cond (tells_end a) (strikes s) passes
step_of (receipt s n) a = passes
step_of (truncate k) a = passes

-- a history as the law reads it
abbrev pub steps : List Event → List (Step Rule)
steps h = map (λ (e : Event). step_of e.call e.answer) h

-- the law of a history of calls with their answers
abbrev pub LawOf : List Entry → List Event → List Entry → Type 0
LawOf first history last = Law Intact first (steps history) last

-- a call with the answer of its definition
abbrev pub event : State → Call → Event
event b c = record { call = c; answer = answer b c }

-- a state is reached from a book just made over `first` by a history in which every answer is that of its definition
pub data Reached (first : List Entry) : List Event → State → Type 0 where
  made : Reached first [] (just_made first)
  called : {h : List Event} {b : State} → Reached first h b → (c : Call) → Reached first (event b c ∷ h) (after b c)

-- the state after a list of calls
abbrev pub final : State → List Call → State
final b [] = b
final b (c ∷ cs) = final (after b c) cs

-- the history of a list of calls, put before the events that there were
abbrev pub history : State → List Call → List Event → List Event
history b [] h = h
history b (c ∷ cs) h = history (after b c) cs (event b c ∷ h)

-- the law of every run: from a book just made over any list of entries, every list of calls
abbrev pub LawOfRuns : Type 0
LawOfRuns =
    (first : List Entry) (calls : List Call)
    → LawOf first (history (just_made first) calls []) (final (just_made first) calls).entries

-- the same of every state that is reached
abbrev pub LawOfReached : Type 0
LawOfReached = (first : List Entry) (h : List Event) (b : State) → Reached first h b → LawOf first h b.entries

-- numbers that a book can keep in 32 bits, and a queue that it can keep in 32 places: each pending change that writes finds a notice number
pub record Bounds (b : State) : Type 0 where
  pub numbers : b.number + owed (count b) b.queue ≤ last_number
  pub places : length b.queue ≤ 32

-- they hold of every state that is reached
abbrev pub BoundsOfReached : Type 0
BoundsOfReached = (first : List Entry) (h : List Event) (b : State) → Reached first h b → Bounds b

-- no commit is refused by its store
abbrev pub CommitsOfReached : Type 0
CommitsOfReached =
    (first : List Entry) (h : List Event) (b : State) → Reached first h b
    → (s : ℕ) → (work_of b s).phase ≡ pending → refused_get (count b) (work_of b s).staged b.entries ≡ None

-- every order of the committed changes in which clashing ones follow their stamps explains the entries
abbrev pub OrdersOfReached : Type 0
OrdersOfReached =
    (first : List Entry) (h : List Event) (b : State) → Reached first h b
    → (order : List (Change Rule)) → Reordering (committed_of (account (steps h)).accepted) order → FollowsStamps order
    → Explains Intact first order b.entries
