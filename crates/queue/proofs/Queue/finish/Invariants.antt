use Rattle.std.proofs.Common.{◌≡◌, ◌++◌, map, length, take, drop}
use Rattle.calls.specs.Effects.{finished}
use Rattle.queue.specs.Entries.{change_view}
use Rattle.queue.specs.Views.{queue_view}
use Rattle.queue.proofs.Queue.finish.Given as goal

abbrev pub invariant-loop-change : goal.invariant-loop-change
invariant-loop-change l =
    (map change_view l.change-items ≡ map (finished l.session) (take l.change-index (queue_view l.fn.self)) ++ drop l.change-index (queue_view l.fn.self))
    × (length l.change-items ≡ length (queue_view l.fn.self))
