use Rattle.std.proofs.Common.{not, rules}
use Rattle.calls.specs.Effects.{own_pending}
use Rattle.queue.specs.Entries.{change_view}
use Rattle.queue.proofs.Filtered.{retained}
use Rattle.queue.proofs.Queue.strike.Goals as goal

pub returns : goal.returns
returns c = retained change_view (λ q. not (own_pending c.args.session q)) _ _ (λ x b f' k. search rules) _ _ c.retain.ensures.filtered
