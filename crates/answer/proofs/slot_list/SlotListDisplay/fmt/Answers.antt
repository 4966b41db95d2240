use Rattle.std.proofs.Common.{rules, refl, sym, ap, ◌∙◌}
use Rattle.std.proofs.Output.{has_written_append}
use Rattle.slots.specs.Rising.{left}
use Rattle.answer.proofs.Listing.{listed_first, listed_more, listed_all, hyphen_none}
use Rattle.answer.proofs.slot_list.SlotListDisplay.fmt.Goals as goal

pub returns-in_default-clause-writes : goal.returns-in_default-clause-writes
returns-in_default-clause-writes g c = rw (hyphen_none _ (sym c.iter-rest.ensures ∙ c.in_default.ensures.steps.0)) (search rules)

pub loop-slot-init : goal.loop-slot-init
loop-slot-init g c =
    let came = c.in-Some.ensures.steps in
    record {
      can = tt;
      ends = tt;
      text = _;
      written = λ plain. c.in_ok-write.ensures.writes plain refl;
      listed = listed_first _ _ _ _ c.iter-rest.ensures came.0 (ap left c.into_iter-slot-iterator.ensures.into_iter_gives ∙ came.1);
    }

pub loop-slot-preserved : goal.loop-slot-preserved
loop-slot-preserved g c =
    let came = c.in-Some-slot.ensures.steps in
    let written = c.loop-slot.invariant.written in
    record {
      can = tt;
      ends = tt;
      text = _;
      written = λ plain. has_written_append g.W.Write.write_str_gives _ _ _ _ _ (written plain) (c.in_ok-write-2.ensures.writes (written plain).plain refl);
      listed = listed_more _ _ _ _ _ c.loop-slot.invariant.listed came.0 came.1;
    }

pub returns-clause-writes : goal.returns-clause-writes
returns-clause-writes g c =
    let all = listed_all _ _ _ c.loop-slot.invariant.listed c.in-None.ensures.steps.0 in
    let written = c.loop-slot.invariant.written in
    search rules
