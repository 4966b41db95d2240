use Rattle.std.proofs.Common.{◌≡◌}
use Rattle.slots.specs.Meaning.{has}
use Rattle.slots.specs.Rising.{left}
use Rattle.tables.specs.Meaning.{at}
use Rattle.tables.proofs.Tables.{applied, coming_over}
use Rattle.tables.proofs.SlotMap.overlay.Given as goal

-- the values of the slots to come are still to come over
abbrev pub invariant-loop-slot : goal.invariant-loop-slot
invariant-loop-slot g l = record {
  can : (goal.iterator-loop-slot g).can_next l.slot-iterator;
  ends : (goal.iterator-loop-slot g).is_finite l.slot-iterator;
  rest : applied (left l.slot-iterator) (coming_over l.over) (at l.self) ≡ applied (has l.over.slots) (coming_over l.over) (at l.fn.self);
}
