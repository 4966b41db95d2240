use Rattle.std.proofs.Common.{◌∙◌, sym, ap}
use Rattle.std.specs.Option.{option_or}
use Rattle.slots.specs.Meaning.{has}
use Rattle.slots.specs.Rising.{left}
use Rattle.tables.specs.Meaning.{at}
use Rattle.tables.proofs.Tables.{coming_over, applied_more, applied_kept, applied_none, applied_all, at_none}
use Rattle.tables.proofs.SlotMap.overlay.Goals as goal

pub loop-slot-preserved-in-Some-get : goal.loop-slot-preserved-in-Some-get
loop-slot-preserved-in-Some-get g c =
    let came = c.in-Some.ensures.steps in
    let now = at c.loop-slot.self in
    record {
      can = tt;
      ends = tt;
      rest = applied_more (coming_over c.args.over.now) _ _ c.in-Some.slot _ now (at c.put.new.self) came.0 came.1 c.put.ensures (ap (λ o. option_or o (now c.in-Some.slot)) (sym c.get.ensures ∙ c.in-Some-get.is)) ∙ c.loop-slot.invariant.rest;
    }

pub loop-slot-preserved : goal.loop-slot-preserved
loop-slot-preserved g c =
    let came = c.in-Some.ensures.steps in
    let now = at c.loop-slot.self in
    record {
      can = tt;
      ends = tt;
      rest = applied_kept (coming_over c.args.over.now) _ _ c.in-Some.slot now came.0 came.1 (ap (λ o. option_or o (now c.in-Some.slot)) (sym c.get.ensures ∙ c.in_default.is)) ∙ c.loop-slot.invariant.rest;
    }

pub returns : goal.returns
returns g c =
    let over = c.args.over.now in
    let old = at c.args.self.now in
    sym (applied_none (coming_over over) (left c.loop-slot.slot-iterator) (at c.loop-slot.self) c.in-None.ensures.steps.0) ∙ c.loop-slot.invariant.rest
    ∙ applied_all (coming_over over) (has over.slots) old (λ x e. ap (λ o. option_or o (old x)) (at_none over x e))
