-- What a book, a call and an answer mean. Assumes nothing.
use Rattle.std.specs.Prelude.{Ok, Err, Result}
use Rattle.refusal.specs.declared.Refusal.{Refusal}
use Rattle.slots.specs.Meaning.{has}
use Rattle.stamp.specs.declared.Key as stamps
use Rattle.store.specs.declared.Reading.{Ghosts as Meaning}
use Rattle.protocol.specs.declared.Call as protocol_calls
use Rattle.protocol.specs.declared.Call.TheVariants as asks
use Rattle.protocol.specs.declared.Learnt.{Learnt}
use Rattle.protocol.specs.declared.Reply.{Reply}
use Rattle.protocol.specs.declared.Reply.TheVariants as says
use Rattle.queue.specs.Entries.{key_view}
use Rattle.ledger.specs.Views.{state}
use Rattle.calls.specs.State.{State}
use Rattle.calls.specs.Words as calls
use Rattle.calls.specs.Words.{Call, Answer}
use Rattle.book.specs.declared.Book.{Book}

-- the state that a book is in, by what its store means
abbrev pub view : {S : Type 0} → Meaning S → Book S → State
view reading b = state (reading.entries b.store) b.ledger

-- what a session learns
abbrev pub learnt_view : Learnt → Answer
learnt_view l = calls.learnt l.number (has l.slots) l.ended

abbrev pub call_view : {K : Type 0} → (K → stamps.Key) → protocol_calls.Call K → Call
call_view key (asks.Begin s) = calls.begin s
call_view key (asks.Fetch s x) = calls.fetch s x
call_view key (asks.Read s x) = calls.read s x
call_view key (asks.Write s x r) = calls.write s x r
call_view key (asks.Drop s x) = calls.drop s x
call_view key (asks.Forward s k) = calls.forward s (key_view (key k))
call_view key (asks.Commit s) = calls.commit s
call_view key (asks.Abort s) = calls.abort s
call_view key (asks.Learn s) = calls.learn s
call_view key (asks.Receipt s n) = calls.receipt s n
call_view key (asks.Truncate k) = calls.truncate (key_view (key k))

-- what is given where a call is done
abbrev pub reply_view : Reply → Answer
reply_view says.Done = calls.done
reply_view (says.Got r) = calls.rule r
reply_view (says.Queued p) = calls.place p
reply_view (says.Numbered n) = calls.number n
reply_view (says.Learnt l) = learnt_view l
reply_view (says.Removed n) = calls.removed n

-- what is answered: what is given, seen as an answer, or the refusal
abbrev pub answered : {T : Type 0} → (T → Answer) → Result T Refusal → Answer
answered seen (Ok given) = seen given
answered seen (Err e) = calls.refused e

abbrev pub answer_view : Result Reply Refusal → Answer
answer_view = answered reply_view
