use Rattle.std.proofs.Common.{◌∙◌, sym, ap, cond, Some, None}
use Rattle.std.proofs.lemmas.Bool.{le-leb, lt-leb}
use Rattle.slots.specs.Meaning.{has}
use Rattle.slots.specs.Rising.{left}
use Rattle.calls.specs.Effects.{up_to_gone}
use Rattle.tables.specs.Meaning.{at}
use Rattle.tables.proofs.Tables.{forgetting, applied_more, applied_kept, applied_none, applied_all, at_none}
use Rattle.tables.proofs.SlotMap+u32.forget.Goals as goal

pub loop-slot-preserved-then-k-number : goal.loop-slot-preserved-then-k-number
loop-slot-preserved-then-k-number c =
    let came = c.in-Some.ensures.steps in
    let k = sym c.get.ensures ∙ c.in-Some-get.is in
    record {
      can = tt;
      ends = tt;
      rest = applied_more (forgetting c.args.number) _ _ c.in-Some.slot _ (at c.loop-slot.self) (at c.remove.new.self) came.0 came.1 c.remove.ensures (ap (up_to_gone c.args.number) k ∙ ap (λ b. cond b None (Some c.in-Some-get.k)) (le-leb c.in-Some-get.k c.args.number c.if-k-number.true)) ∙ c.loop-slot.invariant.rest;
    }

pub loop-slot-preserved-else-k-number : goal.loop-slot-preserved-else-k-number
loop-slot-preserved-else-k-number c =
    let came = c.in-Some.ensures.steps in
    let k = sym c.get.ensures ∙ c.in-Some-get.is in
    record {
      can = tt;
      ends = tt;
      rest = applied_kept (forgetting c.args.number) _ _ c.in-Some.slot (at c.loop-slot.self) came.0 came.1 (ap (up_to_gone c.args.number) k ∙ ap (λ b. cond b None (Some c.in-Some-get.k)) (lt-leb c.in-Some-get.k c.args.number c.if-k-number.false) ∙ sym k) ∙ c.loop-slot.invariant.rest;
    }

pub loop-slot-preserved : goal.loop-slot-preserved
loop-slot-preserved c =
    let came = c.in-Some.ensures.steps in
    let none = sym c.get.ensures ∙ c.in_default.is in
    record {
      can = tt;
      ends = tt;
      rest = applied_kept (forgetting c.args.number) _ _ c.in-Some.slot (at c.loop-slot.self) came.0 came.1 (ap (up_to_gone c.args.number) none ∙ sym none) ∙ c.loop-slot.invariant.rest;
    }

pub returns : goal.returns
returns c =
    let old = at c.args.self.now in
    sym (applied_none (forgetting c.args.number) (left c.loop-slot.slot-iterator) (at c.loop-slot.self) c.in-None.ensures.steps.0) ∙ c.loop-slot.invariant.rest
    ∙ applied_all (forgetting c.args.number) (has c.args.self.now.slots) old (λ x e. let none = at_none c.args.self.now x e in ap (up_to_gone c.args.number) none ∙ sym none)
