-- What is true of every state that is reached, and of the account of the history that led to it. Assumes nothing.
-- Each part takes only what it speaks of, so that a call that does not touch a part passes it on.
use Rattle.std.proofs.Common.{◌≡◌, ℕ, ◌<◌, ◌≤◌, Bool, true, false, ◌||◌, ◌⊎◌, List, [], ◌∷◌, length, is_some, Some, None, Option, refl, zero-le}
use Rattle.std.specs.Option.{option_map}
use Rattle.std.specs.List.{slice_get, AllByRecursion}
use Rattle.rule.specs.declared.Rule.{Rule}
use Rattle.store.specs.declared.Entry.{Entry}
use Rattle.store.specs.declared.Entry.TheVariants.{Intact}
use Rattle.law.specs.Operations.{latest, wrote, has_read, touched}
use Rattle.law.specs.Changes.{Key, Change, Clash, earlier, same_key, pending as is_pending_change}
use Rattle.law.specs.Orders.{Pairwise}
use Rattle.law.specs.Accounts.{Draft, Replacing, Account, pending_of, replaced_since, nothing_yet}
use Rattle.law.proofs.Runs.{Right, AllRight, held_after}
use Rattle.law.proofs.Places.{Places, no_places}
use Rattle.calls.specs.State.{Phase, idle, opened, pending, Desk, Work, Session, Queued, State, held, noticed, written, just_made}
use Rattle.calls.specs.Checks.{not_after}
use Rattle.calls.proofs.Tools.{Any}

-- copies, as entries
abbrev pub as_entries : (ℕ → Option Rule) → ℕ → Option Entry
as_entries copies x = option_map Intact (copies x)

-- has a session a pending change among these
abbrev pub has_pending : ℕ → List (Change Rule) → Bool
has_pending s [] = false
has_pending s (c ∷ cs) = pending_of s c || has_pending s cs

-- a session's desk: a copy without notice is what the store has, and a slot held has a notice exactly when it was replaced since it was taken
pub record DeskOk (n : ℕ) (entries : List Entry) (number : ℕ) (log : List Replacing) (s : ℕ) (taken : ℕ → Option ℕ) (d : Desk) : Type 0 where
  pub true_copy : (x : ℕ) (r : Rule) → d.copies x ≡ Some r → d.notices x ≡ None → slice_get entries x ≡ Some (Intact r)
  pub inside : (x : ℕ) → held d x ≡ true → x < n
  pub told : (x : ℕ) → held d x ≡ true → noticed d x ≡ replaced_since log s x (taken x)
  pub taken_once : (x : ℕ) → held d x ≡ true → is_some (taken x) ≡ true
  pub not_learnt : (x k : ℕ) → held d x ≡ true → d.notices x ≡ Some k → d.learnt < k
  pub within : (x k : ℕ) → d.notices x ≡ Some k → k ≤ number
  pub learnt_within : d.learnt ≤ number

-- an open change and its draft: the same slots, every slot read is held, and each reading was right by the copies
pub record OpenOk (copies : ℕ → Option Rule) (w : Work) (draft : Draft Rule) : Type 0 where
  pub reads : (x : ℕ) → w.read x ≡ has_read draft.ops x
  pub stages : (x : ℕ) → w.staged x ≡ latest draft.ops x
  pub written_read : (x : ℕ) → wrote draft.ops x ≡ true → has_read draft.ops x ≡ true
  pub read_held : (x : ℕ) → w.read x ≡ true → is_some (copies x) ≡ true
  pub right : Right Intact (as_entries copies) draft.ops

-- a pending change: what it writes has no notice in its session, and the store has no damage there
pub record PendingOk (entries : List Entry) (notices : ℕ → Option ℕ) (w : Work) : Type 0 where
  pub calm : (x : ℕ) → written w x ≡ true → notices x ≡ None
  pub sound : (x : ℕ) → written w x ≡ true → (r : Rule) × (slice_get entries x ≡ Some (Intact r))

abbrev pub ByPhase : Phase → List Entry → Desk → Option (Draft Rule) → Bool → Work → Type 0
ByPhase idle entries d draft has w = draft ≡ None
ByPhase opened entries d draft has w = (t : Draft Rule) × (draft ≡ Some t) × OpenOk d.copies w t
ByPhase pending entries d draft has w = (draft ≡ None) × (has ≡ true) × PendingOk entries d.notices w

-- a session's change, by its phase
abbrev pub WorkOk : List Entry → Desk → Option (Draft Rule) → Bool → Work → Type 0
WorkOk entries d draft has w = ByPhase w.phase entries d draft has w

-- both, of a session in a state with its account
abbrev pub DeskIn : List Entry → State → Account Rule → ℕ → Desk → Type 0
DeskIn first b a t d = DeskOk (length first) b.entries b.number a.replacings t (a.taken t) d

abbrev pub WorkIn : State → Account Rule → ℕ → Session → Type 0
WorkIn b a t p = WorkOk b.entries p.desk (a.drafts t) (has_pending t a.accepted) p.work

-- an accepted change: it read what it wrote, inside the list; if it is pending, its session is, with the rules that it wrote staged
pub record ChangeOk (n : ℕ) (works : ℕ → Work) (c : Change Rule) : Type 0 where
  pub written_read : (x : ℕ) → wrote c.ops x ≡ true → has_read c.ops x ≡ true
  pub inside : (x : ℕ) → has_read c.ops x ≡ true → x < n
  pub mine : is_pending_change c ≡ true → ((works c.session).phase ≡ pending) × ((x : ℕ) → (works c.session).staged x ≡ latest c.ops x)

-- two accepted changes, the former before the latter
pub record Between (b c : Change Rule) : Type 0 where
  pub apart : same_key b.key c.key ≡ false
  pub clear : is_pending_change b ≡ true → (x : ℕ) → wrote b.ops x ≡ true → touched c.ops x ≡ false
  pub rising : Clash b c → earlier b.key c.key ≡ true

-- a change and its entry in the queue
pub record Matches (c : Change Rule) (q : Queued) : Type 0 where
  pub key : q.key ≡ c.key
  pub session : q.session ≡ c.session
  pub reads : (x : ℕ) → q.read x ≡ has_read c.ops x
  pub writes : (x : ℕ) → q.written x ≡ wrote c.ops x
  pub waits : q.pending ≡ is_pending_change c

-- an accepted change is in the queue, or was committed and is not after the threshold
abbrev pub Known : List Queued → Option Key → Change Rule → Type 0
Known queue threshold c = ((is_pending_change c ≡ false) × (not_after threshold c.key ≡ true)) ⊎ Any (Matches c) queue

-- what the accepted changes made of the entries, and what is known of each
pub record Settled (first entries : List Entry) (queue : List Queued) (threshold : Option Key) (accepted : List (Change Rule)) : Type 0 where
  pub size : length entries ≡ length first
  pub chain : Pairwise Between accepted
  pub right : AllRight Intact (slice_get first) accepted
  pub holds : (x : ℕ) → slice_get entries x ≡ held_after Intact (slice_get first) accepted x
  pub known : AllByRecursion (Known queue threshold) accepted

pub record Inv (first : List Entry) (b : State) (a : Account Rule) : Type 0 where
  pub settled : Settled first b.entries b.queue b.threshold a.accepted
  pub open settled use *
  pub changes : AllByRecursion (ChangeOk (length first) (λ t. (b.sessions t).work)) a.accepted
  pub desks : (t : ℕ) → DeskIn first b a t (b.sessions t).desk
  pub works : (t : ℕ) → WorkIn b a t (b.sessions t)
  pub places : Places a

-- it is true of a book just made
pub made_ok : (first : List Entry) → Inv first (just_made first) nothing_yet
made_ok first = record {
  settled = record { size = refl; chain = tt; right = tt; holds = λ x. refl; known = tt };
  changes = tt;
  desks = λ t. record {
    true_copy = λ x r e _. cc;
    inside = λ x e. cc;
    told = λ x e. refl;
    taken_once = λ x e. e;
    not_learnt = λ x k e _. cc;
    within = λ x k e. cc;
    learnt_within = zero-le;
  };
  works = λ t. refl;
  places = no_places;
}
