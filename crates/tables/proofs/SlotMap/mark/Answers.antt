use Rattle.std.proofs.Common.{◌∙◌, sym, refl}
use Rattle.slots.specs.Rising.{left}
use Rattle.tables.specs.Meaning.{at}
use Rattle.tables.proofs.Tables.{putting, applied_more, applied_none}
use Rattle.tables.proofs.SlotMap.mark.Goals as goal

pub loop-slot-preserved : goal.loop-slot-preserved
loop-slot-preserved g c =
    let came = c.in-Some.ensures.steps in
    record {
      can = tt;
      ends = tt;
      rest = applied_more (putting c.args.value) _ _ c.in-Some.slot _ (at c.loop-slot.self) (at c.put.new.self) came.0 came.1 c.put.ensures refl ∙ c.loop-slot.invariant.rest;
    }

pub returns : goal.returns
returns g c = sym (applied_none (putting c.args.value) (left c.loop-slot.slot-iterator) (at c.loop-slot.self) c.in-None.ensures.steps.0) ∙ c.loop-slot.invariant.rest
