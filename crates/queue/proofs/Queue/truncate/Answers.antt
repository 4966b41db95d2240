use Rattle.std.proofs.Common.{rules}
use Rattle.calls.specs.Effects.{stays}
use Rattle.queue.specs.Entries.{key_view, change_view}
use Rattle.queue.proofs.Filtered.{retained}
use Rattle.queue.proofs.Queue.truncate.Goals as goal

pub returns-clause-after : goal.returns-clause-after
returns-clause-after c = retained change_view (stays (key_view c.args.key)) _ _ (λ x b f' k. search rules) _ _ c.retain.ensures.filtered
