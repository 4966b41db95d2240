use Rattle.std.proofs.Common.{Some, sym, ap, ◌∙◌, arith, rules}
use Rattle.std.proofs.lemmas.Option.{slice_get-get_or}
use Rattle.tables.specs.Meaning.{kept}
use Rattle.tables.proofs.Tables.{at_some, at_none, at_outside}
use Rattle.tables.proofs.SlotMap.get.Goals as goal

pub returns-then-slot-ge-SLOTS : goal.returns-then-slot-ge-SLOTS
returns-then-slot-ge-SLOTS g c = sym (at_outside c.args.self.now c.args.slot c.if-slot-ge-SLOTS.true)

pub returns-then-not-contains : goal.returns-then-not-contains
returns-then-not-contains g c = sym (at_none c.args.self.now c.args.slot (sym c.contains.ensures.value ∙ c.if-not-contains.true))

pub returns-in-Some : goal.returns-in-Some
returns-in-Some g c =
    sym (at_some c.args.self.now c.args.slot (sym c.contains.ensures.value ∙ c.if-not-contains.false) ∙ ap (λ o. kept o c.args.slot) c.in-Some.is ∙ slice_get-get_or c.in-Some.values c.args.slot c.index-values-slot.result (omega arith))
