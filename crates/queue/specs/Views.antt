-- What the queue means. Assumes nothing.
use Rattle.std.specs.Prelude.{cond, List, [], ◌∷◌, ◌++◌, map, length, vec_items, nat_lt}
use Rattle.calls.specs.State.{Queued}
use Rattle.queue.specs.declared.Queue.{Queue}
use Rattle.queue.specs.Entries.{change_view}

abbrev pub queue_view : Queue → List Queued
queue_view q = map change_view (vec_items q.changes)

-- with one more at the end; where there are 32, nothing joins
abbrev pub joined : List Queued → Queued → List Queued
joined l q = cond (nat_lt (length l) 32) (l ++ q ∷ []) l
