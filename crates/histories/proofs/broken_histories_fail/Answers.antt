use Rattle.std.proofs.Common.{List, reverse, refl}
use Rattle.rule.specs.declared.Rule.{Rule}
use Rattle.rule.specs.Making.{open_rule}
use Rattle.law.specs.Accounts.{Step}
use Rattle.calls.specs.Histories.{Event, steps}
use Rattle.histories.specs.Book.{four, block_rule}
use Rattle.histories.specs.Broken.{
  one_blocked,
  without_later_check,
  without_pending_check,
  without_stale_check,
  receipt_takes_all,
  learn_keeps_copies,
  commit_tells_nobody,
  commit_forgets_a_put,
  commit_pretends,
  truncation_drops_threshold,
  fetch_leaves_notice,
  reader_let_past,
  every_forward_accepted,
}
use Rattle.histories.proofs.Tests.{fails_by_stamp, fails_by_acceptance, fails_stamps_once, fails_staleness}
use Rattle.histories.proofs.broken_histories_fail.Goals as goal

abbrev of : List Event → List (Step Rule)
of events = steps (reverse events)

pub returns : goal.returns
unfolding open_rule block_rule
returns c = record {
  no_later_check = record { agrees = refl; unlawful = fails_by_stamp four (of without_later_check) one_blocked refl };
  no_pending_check = record { agrees = refl; unlawful = fails_by_acceptance four (of without_pending_check) one_blocked refl };
  no_stale_check = record { agrees = refl; unlawful = fails_staleness four (of without_stale_check) one_blocked refl };
  receipt_that_takes_all = record { agrees = refl; unlawful = fails_staleness four (of receipt_takes_all) four refl };
  learn_that_keeps_copies = record { agrees = refl; unlawful = fails_staleness four (of learn_keeps_copies) one_blocked refl };
  commit_that_tells_nobody = record { agrees = refl; unlawful = fails_staleness four (of commit_tells_nobody) one_blocked refl };
  commit_that_forgets_a_put = record { agrees = refl; unlawful = fails_by_acceptance four (of commit_forgets_a_put) one_blocked refl };
  commit_that_pretends = record { agrees = refl; unlawful = fails_by_acceptance four (of commit_pretends) four refl };
  truncation_that_drops_the_threshold = record { agrees = refl; unlawful = fails_by_stamp four (of truncation_drops_threshold) one_blocked refl };
  fetch_that_leaves_the_notice = record { agrees = refl; unlawful = fails_staleness four (of fetch_leaves_notice) one_blocked refl };
  readers_past_the_checks = record { agrees = refl; unlawful = fails_by_acceptance four (of reader_let_past) one_blocked refl };
  all_accepted = record { agrees = refl; unlawful = fails_stamps_once four (of every_forward_accepted) four refl };
}
