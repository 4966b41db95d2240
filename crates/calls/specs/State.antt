-- What a book keeps, without any layout: sets and tables are functions of the slot, sessions a function of their number. Assumes nothing.
use Rattle.std.specs.Prelude.{ℕ, Bool, false, List, [], is_some, None, Option, slice_index_or}
use Rattle.rule.specs.declared.Rule.{Rule}
use Rattle.store.specs.declared.Entry.{Entry}
use Rattle.law.specs.Changes.{Key}

-- where the change of a session stands: there is none, it is being written, it waits in the queue
pub data Phase : Type 0 where
  idle opened pending : Phase

-- what a session has before it: its copies of the slots that it holds, the number of the notice on a slot, the last learnt number
pub record Desk : Type 0 where
  pub copies : ℕ → Option Rule
  pub notices : ℕ → Option ℕ
  pub learnt : ℕ

-- a session's change: its phase, the slots read, and the rules staged for the slots written
pub record Work : Type 0 where
  pub phase : Phase
  pub read : ℕ → Bool
  pub staged : ℕ → Option Rule

-- a session
pub record Session : Type 0 where
  pub desk : Desk
  pub work : Work

-- an accepted change in the queue: its stamp's key, its session, the slots read and written, pending or committed
pub record Queued : Type 0 where
  pub key : Key
  pub session : ℕ
  pub read : ℕ → Bool
  pub written : ℕ → Bool
  pub pending : Bool

-- what a book keeps
pub record State : Type 0 where
  -- the store's entries
  pub entries : List Entry
  -- the sessions 0 to 7
  pub sessions : ℕ → Session
  -- in order of acceptance
  pub queue : List Queued
  -- absent until the first truncation
  pub threshold : Option Key
  -- the notice number
  pub number : ℕ

-- is the slot held
abbrev pub held : Desk → ℕ → Bool
held d x = is_some (d.copies x)

-- has the slot a notice
abbrev pub noticed : Desk → ℕ → Bool
noticed d x = is_some (d.notices x)

-- is the slot written by the session's change
abbrev pub written : Work → ℕ → Bool
written w x = is_some (w.staged x)

-- no change
abbrev pub no_work : Work
no_work = record { phase = idle; read = λ _. false; staged = λ _. None }

-- a session that has done nothing
abbrev pub fresh : Session
fresh = record { desk = record { copies = λ _. None; notices = λ _. None; learnt = 0 }; work = no_work }

-- the sessions of a list of them; past its end, sessions that have done nothing
abbrev pub sessions_of : List Session → ℕ → Session
sessions_of l t = slice_index_or l t fresh

-- the state of a book just made over these entries
abbrev pub just_made : List Entry → State
just_made entries = record { entries = entries; sessions = λ _. fresh; queue = []; threshold = None; number = 0 }
