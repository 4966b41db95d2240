use Rattle.std.proofs.Common.{◌≡◌, Some}
use Rattle.slots.specs.Meaning.{has}
use Rattle.slots.specs.Rising.{left}
use Rattle.tables.specs.Meaning.{at, marked}
use Rattle.tables.proofs.SlotMap.mark.Given as goal

-- the slots to come are still to be marked
abbrev pub invariant-loop-slot : goal.invariant-loop-slot
invariant-loop-slot g l = record {
  can : (goal.iterator-loop-slot g).can_next l.slot-iterator;
  ends : (goal.iterator-loop-slot g).is_finite l.slot-iterator;
  rest : marked (left l.slot-iterator) l.value (at l.self) ≡ marked (has l.fn.set) l.value (at l.fn.self);
}
