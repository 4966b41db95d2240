-- The checks of each call, in their order. Each check gives a cause where it turns the call away. Assumes nothing.
use Rattle.std.specs.Prelude.{ℕ, zero, suc, ◌+◌, Bool, true, false, cond, not, ◌&&◌, ◌||◌, List, [], ◌∷◌, length, is_some, Some, None, Ok, Err, Option, Result, ◌==◌, nat_le}
use Rattle.std.specs.Option.{option_map, option_or}
use Rattle.refusal.specs.declared.Refusal.{Refusal}
use Rattle.refusal.specs.declared.Refusal.TheVariants.{
  NoSuchSession,
  SlotOutsideBook,
  WrongPhase,
  AlreadyHeld,
  NotHeld,
  NotRead,
  ReadByChange,
  StampTooEarly,
  StampTaken,
  QueueFull,
  LaterConflict,
  PendingConflict,
  Stale,
  NumbersExhausted,
  ReceiptTooHigh,
}
use Rattle.rule.specs.declared.Rule.{Rule}
use Rattle.store.specs.declared.Entry.{Entry}
use Rattle.store.specs.Entries.{got}
use Rattle.law.specs.Changes.{Key, earlier, same_key}
use Rattle.calls.specs.Sets.{lowest, any_below, meets, first_place}
use Rattle.calls.specs.State.{Phase, idle, opened, pending, Desk, Work, Queued, State, held, noticed, written}
use Rattle.calls.specs.Words.{Call, begin, fetch, read, write, drop, forward, commit, abort, learn, receipt, truncate}

-- the cause, where the test holds
abbrev pub when : Bool → Refusal → Option Refusal
when test cause = cond test (Some cause) None

-- the cause of the first check that turns the call away
abbrev pub first_cause : List (Option Refusal) → Option Refusal
first_cause [] = None
first_cause (c ∷ cs) = option_or c (first_cause cs)

-- in phase idle
abbrev pub is_idle : Phase → Bool
is_idle idle = true
is_idle opened = false
is_idle pending = false

-- in phase open
abbrev pub is_opened : Phase → Bool
is_opened idle = false
is_opened opened = true
is_opened pending = false

-- in phase pending
abbrev pub is_pending : Phase → Bool
is_pending idle = false
is_pending opened = false
is_pending pending = true

-- the slots of a book are those of its store
abbrev pub count : State → ℕ
count b = length b.entries

-- what a session has before it
abbrev pub desk_of : State → ℕ → Desk
desk_of b s = (b.sessions s).desk

-- the change of a session
abbrev pub work_of : State → ℕ → Work
work_of b s = (b.sessions s).work

-- there are eight sessions
abbrev pub no_session : ℕ → Option Refusal
no_session s = when (nat_le 8 s) (NoSuchSession s)

-- the slot is not below the count
abbrev pub no_slot : State → ℕ → Option Refusal
no_slot b x = when (nat_le (count b) x) (SlotOutsideBook x)

-- the session is in none of the phases that pass the test
abbrev pub wrong_phase : (Phase → Bool) → State → ℕ → Option Refusal
wrong_phase listed b s = when (not (listed (work_of b s).phase)) (WrongPhase s)

-- fetch of a slot that is held
abbrev pub already_held : State → ℕ → ℕ → Option Refusal
already_held b s x = when (held (desk_of b s) x) (AlreadyHeld x)

-- read, write or drop of a slot that is not held
abbrev pub not_held : State → ℕ → ℕ → Option Refusal
not_held b s x = when (not (held (desk_of b s) x)) (NotHeld x)

-- write of a slot that the change has not read
abbrev pub not_read : State → ℕ → ℕ → Option Refusal
not_read b s x = when (not ((work_of b s).read x)) (NotRead x)

-- drop of a slot that the open change read
abbrev pub read_by_change : State → ℕ → ℕ → Option Refusal
read_by_change b s x = when (is_opened (work_of b s).phase && (work_of b s).read x) (ReadByChange x)

-- a refusal of the store is passed up
abbrev pub refusal_of : Result Rule Refusal → Option Refusal
refusal_of (Ok r) = None
refusal_of (Err e) = Some e

-- a key is not after the threshold, if there is one
abbrev pub not_after : Option Key → Key → Bool
not_after None k = false
not_after (Some t) k = not (earlier t k)

-- the stamp is not after the threshold
abbrev pub too_early : State → Key → Option Refusal
too_early b k = when (not_after b.threshold k) StampTooEarly

-- the stamp is in the queue, at this place
abbrev pub stamp_taken : State → Key → Option Refusal
stamp_taken b k = option_map StampTaken (first_place (λ q. same_key q.key k) b.queue)

-- the queue has 32 entries
abbrev pub queue_full : State → Option Refusal
queue_full b = when (nat_le 32 (length b.queue)) QueueFull

-- an entry with a later stamp writes a slot read, or read a slot written
abbrev pub later_clash : ℕ → Key → Work → Queued → Bool
later_clash n k w q = earlier k q.key && (meets n q.written w.read || meets n q.read (written w))

-- the first entry with a later stamp that clashes
abbrev pub later_conflict : State → ℕ → Key → Option Refusal
later_conflict b s k = option_map LaterConflict (first_place (later_clash (count b) k (work_of b s)) b.queue)

-- a pending entry with an earlier stamp writes a slot read
abbrev pub pending_clash : ℕ → Key → Work → Queued → Bool
pending_clash n k w q = q.pending && (earlier q.key k && meets n q.written w.read)

-- the first such entry
abbrev pub pending_conflict : State → ℕ → Key → Option Refusal
pending_conflict b s k = option_map PendingConflict (first_place (pending_clash (count b) k (work_of b s)) b.queue)

-- the lowest slot read that has a notice
abbrev pub stale_slot : State → ℕ → Option Refusal
stale_slot b s = option_map Stale (lowest (count b) (λ x. (work_of b s).read x && noticed (desk_of b s) x))

-- how many pending entries write, each of which will want a notice number
abbrev pub owed : ℕ → List Queued → ℕ
owed n [] = 0
owed n (q ∷ qs) = cond (q.pending && any_below n q.written) (suc (owed n qs)) (owed n qs)

-- the largest notice number
abbrev pub last_number : ℕ
last_number = 4294967295

-- the change writes, and every notice number left is owed
abbrev pub numbers_exhausted : State → ℕ → Option Refusal
numbers_exhausted b s =
    when (any_below (count b) (written (work_of b s)) && b.number + owed (count b) b.queue == last_number) NumbersExhausted

-- what the store refuses of the slots below n for which a rule is staged, lowest slot first
abbrev pub refused_get : ℕ → (ℕ → Option Rule) → List Entry → Option Refusal
refused_get zero staged l = None
refused_get (suc n) staged l = option_or (refused_get n staged l) (cond (is_some (staged n)) (refusal_of (got l n)) None)

-- the receipt is above the last learnt number
abbrev pub receipt_too_high : State → ℕ → ℕ → Option Refusal
receipt_too_high b s n = when (not (nat_le n (desk_of b s).learnt)) (ReceiptTooHigh s)

-- the checks of each call, in their order
abbrev pub checks : State → Call → List (Option Refusal)
checks b (begin s) = no_session s ∷ wrong_phase is_idle b s ∷ []
checks b (fetch s x) =
    no_session s ∷ no_slot b x ∷ wrong_phase (λ p. not (is_pending p)) b s ∷ already_held b s x
    ∷ refusal_of (got b.entries x) ∷ []
checks b (read s x) = no_session s ∷ no_slot b x ∷ wrong_phase is_opened b s ∷ not_held b s x ∷ []
checks b (write s x r) =
    no_session s ∷ no_slot b x ∷ wrong_phase is_opened b s ∷ not_held b s x ∷ not_read b s x ∷ []
checks b (drop s x) =
    no_session s ∷ no_slot b x ∷ wrong_phase (λ p. not (is_pending p)) b s ∷ not_held b s x ∷ read_by_change b s x ∷ []
checks b (forward s k) =
    no_session s ∷ wrong_phase is_opened b s ∷ too_early b k ∷ stamp_taken b k ∷ queue_full b
    ∷ later_conflict b s k ∷ pending_conflict b s k ∷ stale_slot b s ∷ numbers_exhausted b s ∷ []
checks b (commit s) = no_session s ∷ wrong_phase is_pending b s ∷ refused_get (count b) (work_of b s).staged b.entries ∷ []
checks b (abort s) = no_session s ∷ wrong_phase (λ p. not (is_idle p)) b s ∷ []
checks b (learn s) = no_session s ∷ []
checks b (receipt s n) = no_session s ∷ receipt_too_high b s n ∷ []
checks b (truncate k) = []
