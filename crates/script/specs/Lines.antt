-- What a line comes to, by what it reads as: a call, or the refusal of a line that is none. Assumes nothing.
use Rattle.std.specs.Prelude.{List, ◌∷◌, Ok, Err, Result}
use Rattle.refusal.specs.declared.Refusal.{Refusal}
use Rattle.stamp.specs.declared.Key as stamps
use Rattle.protocol.specs.declared.Call as protocol_calls
use Rattle.calls.specs.State.{State}
use Rattle.calls.specs.Words.{Answer, refused}
use Rattle.calls.specs.Calls.{answer, after}
use Rattle.calls.specs.Histories.{Event}
use Rattle.book.specs.Runs.{said}
use Rattle.book.specs.Views.{call_view}

module _ {K : Type 0} (key : K → stamps.Key) where
  -- what a line is answered
  abbrev pub line_answer : Result (protocol_calls.Call K) Refusal → State → Answer
  line_answer (Ok call) b = answer b (call_view key call)
  line_answer (Err refusal) b = refused refusal

  -- the state after a line; one that is no call changes nothing
  abbrev pub line_after : Result (protocol_calls.Call K) Refusal → State → State
  line_after (Ok call) b = after b (call_view key call)
  line_after (Err refusal) b = b

  -- the history after a line: its call with the answer is added; one that is no call is not in it
  abbrev pub line_history : Result (protocol_calls.Call K) Refusal → Answer → List Event → List Event
  line_history (Ok call) a h = said (call_view key call) a ∷ h
  line_history (Err refusal) a h = h
