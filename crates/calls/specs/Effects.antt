-- What each call does where no check turns it away. Assumes nothing.
use Rattle.std.specs.Prelude.{ℕ, zero, suc, Bool, true, false, cond, not, ◌&&◌, ◌||◌, List, [], ◌∷◌, ◌++◌, map, Some, None, Ok, Err, filter, Option, ◌==◌, nat_le}
use Rattle.std.specs.Option.{option_or}
use Rattle.rule.specs.declared.Rule.{Rule}
use Rattle.store.specs.declared.Entry.{Entry}
use Rattle.store.specs.Entries.{got, put_into}
use Rattle.law.specs.Changes.{Key, earlier}
use Rattle.law.specs.Accounts.{changed}
use Rattle.calls.specs.Sets.{any_below, meets}
use Rattle.calls.specs.State.{opened, pending, Desk, Work, Session, Queued, State, held, noticed, written, no_work}
use Rattle.calls.specs.Words.{Call, begin, fetch, read, write, drop, forward, commit, abort, learn, receipt, truncate}
use Rattle.calls.specs.Checks.{is_opened, count, work_of}

-- the state with other sessions
abbrev pub with_sessions : (ℕ → Session) → State → State
with_sessions f b = record b { sessions = f }

-- the state with one session changed
abbrev pub with_session : ℕ → (Session → Session) → State → State
with_session s f b = with_sessions (changed s f b.sessions) b

-- the rule in a slot of the store, if it gives one
abbrev pub rule_in : List Entry → ℕ → Option Rule
rule_in l x = elim (got l x) [ Ok r ↦ Some r | Err e ↦ None ]

-- the copy of a slot is this one; none, and the slot is not held
abbrev pub with_copy : ℕ → Option Rule → Desk → Desk
with_copy x o d = record d { copies = changed x (λ _. o) d.copies }

-- a slot without notice
abbrev pub without_notice : ℕ → Desk → Desk
without_notice x d = record d { notices = changed x (λ _. None) d.notices }

-- an open change that did nothing
abbrev pub begun : Session → Session
begun p = record p { work = record { phase = opened; read = λ _. false; staged = λ _. None } }

-- the slot is held with this copy, and its notice goes
abbrev pub fetched : ℕ → Option Rule → Session → Session
fetched x o p = record p { desk = without_notice x (with_copy x o p.desk) }

-- the slot counts as read
abbrev pub having_read : ℕ → Session → Session
having_read x p = record p { work = record p.work { read = changed x (λ _. true) p.work.read } }

-- the rule is staged for the slot
abbrev pub having_written : ℕ → Rule → Session → Session
having_written x r p = record p { work = record p.work { staged = changed x (λ _. Some r) p.work.staged } }

-- the slot is no longer held; its notice stays
abbrev pub dropped : ℕ → Session → Session
dropped x p = record p { desk = with_copy x None p.desk }

-- the change waits for its commit
abbrev pub put_forward : Session → Session
put_forward p = record p { work = record p.work { phase = pending } }

-- the queue entry of a session's change
abbrev pub entry_of : ℕ → Key → Work → Queued
entry_of s k w = record { key = k; session = s; read = w.read; written = written w; pending = true }

-- the pending entry of a session
abbrev pub own_pending : ℕ → Queued → Bool
own_pending s q = q.pending && q.session == s

-- the store after the puts of the rules staged for the slots below n, lowest slot first
abbrev pub puts : ℕ → (ℕ → Option Rule) → List Entry → List Entry
puts zero staged l = l
puts (suc n) staged l = elim (staged n) [ Some r ↦ put_into (puts n staged l) n r | None ↦ puts n staged l ]

-- the slots that a commit of a session replaces, of which other holders are told: those that it wrote
abbrev pub replaced : State → ℕ → ℕ → Bool
replaced b s x = written (work_of b s) x

-- the notice number after a commit
abbrev pub number_after : State → ℕ → ℕ
number_after b s = cond (any_below (count b) (replaced b s)) (suc b.number) b.number

-- the committing session: what it wrote are its copies, and its change is done
abbrev pub committed : Session → Session
committed p = record {
  desk = record p.desk { copies = λ x. option_or (p.work.staged x) (p.desk.copies x) };
  work = no_work;
}

-- another session: a notice on each slot replaced that it holds
abbrev pub notified : (ℕ → Bool) → ℕ → Session → Session
notified slots n p = record p {
  desk = record p.desk { notices = λ x. cond (slots x && held p.desk x) (Some n) (p.desk.notices x) };
}

-- the pending entry of a session becomes committed
abbrev pub finished : ℕ → Queued → Queued
finished s q = record q { pending = q.pending && not (own_pending s q) }

-- the change is gone
abbrev pub aborted : Session → Session
aborted p = record p { work = no_work }

-- the slots that a learn drops: those with notices
abbrev pub learn_drops : Desk → ℕ → Bool
learn_drops d x = noticed d x

-- an open change that read a slot dropped by a learn ends
abbrev pub ends_change : ℕ → Session → Bool
ends_change n p = is_opened p.work.phase && meets n p.work.read (learn_drops p.desk)

-- the slots dropped are no longer held, and the last learnt number is the notice number
abbrev pub having_learnt : ℕ → ℕ → Session → Session
having_learnt n k p = record {
  desk = record p.desk { copies = λ x. cond (learn_drops p.desk x) None (p.desk.copies x); learnt = k };
  work = cond (ends_change n p) no_work p.work;
}

-- notices up to a number go
abbrev pub up_to_gone : ℕ → Option ℕ → Option ℕ
up_to_gone n None = None
up_to_gone n (Some k) = cond (nat_le k n) None (Some k)

-- the notices up to the number go, on slots held and others
abbrev pub receipted : ℕ → Session → Session
receipted n p = record p { desk = record p.desk { notices = λ x. up_to_gone n (p.desk.notices x) } }

-- the later of the threshold and a key
abbrev pub later : Option Key → Key → Key
later None k = k
later (Some t) k = cond (earlier t k) k t

-- an entry that truncation leaves: it is pending, or its stamp is after the threshold
abbrev pub stays : Key → Queued → Bool
stays t q = q.pending || earlier t q.key

-- the queue after a truncation
abbrev pub queue_after : State → Key → List Queued
queue_after b k = filter (stays (later b.threshold k)) b.queue

-- what each call does where no check turns it away
abbrev pub effect : State → Call → State
effect b (begin s) = with_session s begun b
effect b (fetch s x) = with_session s (fetched x (rule_in b.entries x)) b
effect b (read s x) = with_session s (having_read x) b
effect b (write s x r) = with_session s (having_written x r) b
effect b (drop s x) = with_session s (dropped x) b
effect b (forward s k) = record b { sessions = changed s put_forward b.sessions; queue = b.queue ++ entry_of s k (work_of b s) ∷ [] }
effect b (commit s) = record b {
  entries = puts (count b) (work_of b s).staged b.entries;
  sessions = λ t. cond (t == s) (committed (b.sessions t)) (notified (replaced b s) (number_after b s) (b.sessions t));
  queue = map (finished s) b.queue;
  number = number_after b s;
}
effect b (abort s) = record b { sessions = changed s aborted b.sessions; queue = filter (λ q. not (own_pending s q)) b.queue }
effect b (learn s) = with_session s (having_learnt (count b) b.number) b
effect b (receipt s n) = with_session s (receipted n) b
effect b (truncate k) = record b {
  queue = queue_after b k;
  threshold = Some (later b.threshold k);
}
