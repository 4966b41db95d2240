use Rattle.std.proofs.Common.{◌∙◌, rules}
use Rattle.calls.specs.Effects.{having_learnt, ends_change}
use Rattle.session.proofs.Rows.{record_changed, given_is}
use Rattle.session.proofs.table.Sessions.learn.Goals as goal

pub returns : goal.returns
returns c = record {
  after = record_changed (having_learnt c.args.count c.args.number) c.change.ensures (λ a r b p. search rules);
  ended = c.unwrap_or.ensures ∙ given_is (ends_change c.args.count) c.change.ensures (λ a r b p. search rules);
}
