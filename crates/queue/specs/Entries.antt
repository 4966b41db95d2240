-- What one change in the queue means. Assumes nothing.
use Rattle.std.specs.Prelude.{ℕ, Bool, true, false, ◌&&◌, ◌||◌}
use Rattle.slots.specs.Meaning.{has}
use Rattle.stamp.specs.declared.Key as stamps
use Rattle.law.specs.Changes.{Key, earlier}
use Rattle.calls.specs.Sets.{any_below, meets}
use Rattle.calls.specs.State.{Queued}
use Rattle.queue.specs.declared.entry.Stage.{Stage}
use Rattle.queue.specs.declared.entry.Stage.TheVariants.{Pending, Committed}
use Rattle.queue.specs.declared.entry.Change.{Change}

abbrev pub key_view : stamps.Key → Key
key_view k = record { major = k.first; minor = k.second }

abbrev pub is_pending : Stage → Bool
is_pending Pending = true
is_pending Committed = false

abbrev pub change_view : Change → Queued
change_view c = record { key = key_view c.key; session = c.session; read = has c.read; written = has c.written; pending = is_pending c.stage }

-- the tests of a change that is put forward, over the slots that it read and wrote
abbrev pub meets_later : ℕ → Key → (ℕ → Bool) → (ℕ → Bool) → Queued → Bool
meets_later n k read written q = earlier k q.key && (meets n q.written read || meets n q.read written)

abbrev pub meets_pending : ℕ → Key → (ℕ → Bool) → Queued → Bool
meets_pending n k read q = q.pending && (earlier q.key k && meets n q.written read)

-- it will want a notice number
abbrev pub owing : ℕ → Queued → Bool
owing n q = q.pending && any_below n q.written
