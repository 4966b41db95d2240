-- What a ledger means. Assumes nothing.
use Rattle.std.specs.Prelude.{List}
use Rattle.std.specs.Option.{option_map}
use Rattle.store.specs.declared.Entry.{Entry}
use Rattle.session.specs.Views.{sessions_of}
use Rattle.queue.specs.Entries.{key_view}
use Rattle.queue.specs.Views.{queue_view}
use Rattle.calls.specs.State.{State}
use Rattle.ledger.specs.declared.Ledger.{Ledger}

-- the state of a book with this ledger, over a store that means these entries
abbrev pub state : List Entry → Ledger → State
state entries g = record {
  entries = entries;
  sessions = sessions_of g.sessions.records;
  queue = queue_view g.queue;
  threshold = option_map key_view g.threshold;
  number = g.number;
}
