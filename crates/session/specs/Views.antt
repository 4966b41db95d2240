-- What the record of a session means, and the table of them. Assumes nothing.
use Rattle.std.specs.Prelude.{◌≡◌, ℕ, ◌<◌, ◌≤◌, Bool, cond, List, map, Some, None, Option, ◌==◌, nat_lt, slice_get, slice_set, slice_index_or}
use Rattle.slots.specs.Meaning.{has}
use Rattle.tables.specs.Meaning.{at}
use Rattle.calls.specs.State as state
use Rattle.calls.specs.State.{idle, opened, pending, Session, fresh}
use Rattle.calls.specs.Effects.{committed, notified}
use Rattle.session.specs.declared.Phase.{Phase}
use Rattle.session.specs.declared.Phase.TheVariants.{Idle, Open, Pending}
use Rattle.session.specs.declared.Record.{Record}

abbrev pub phase_view : Phase → state.Phase
phase_view Idle = idle
phase_view Open = opened
phase_view Pending = pending

abbrev pub view : Record → Session
view r = record {
  desk = record { copies = at r.copies; notices = at r.notices; learnt = r.learnt };
  work = record { phase = phase_view r.phase; read = has r.read; staged = at r.staged };
}

-- the sessions 0 to 7; what is no session has done nothing
abbrev pub sessions_of : List Record → ℕ → Session
sessions_of rs s = cond (nat_lt s 8) (slice_index_or (map view rs) s fresh) fresh

-- the sessions after one of them committed a change that replaced some slots
abbrev pub after_commit : ℕ → (ℕ → Bool) → ℕ → (ℕ → Session) → ℕ → Session
after_commit s slots n f t = cond (t == s) (committed (f t)) (notified slots n (f t))

-- a call changed the record of a session and gave a value; where there is no such session, there was no call
pub record Changed {R : Type 0} (call : Record → R → Record → Type 0) (old new : List Record) (s : ℕ) (given : Option R) : Type 0 where
  pub outside : 8 ≤ s → (given ≡ None) × (new ≡ old)
  pub inside : s < 8 → (r : R) × (before after : Record) × (given ≡ Some r) × call before r after × (slice_get old s ≡ Some before) × (new ≡ slice_set old s after)
