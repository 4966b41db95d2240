use Rattle.std.proofs.Common.{◌≡◌}
use Rattle.slots.specs.Meaning.{has}
use Rattle.slots.specs.Rising.{left}
use Rattle.tables.specs.Meaning.{at}
use Rattle.tables.proofs.Tables.{applied, forgetting}
use Rattle.tables.proofs.SlotMap+u32.forget.Given as goal

-- the numbers of the slots to come are still to be looked at
abbrev pub invariant-loop-slot : goal.invariant-loop-slot
invariant-loop-slot l = record {
  can : goal.iterator-loop-slot.can_next l.slot-iterator;
  ends : goal.iterator-loop-slot.is_finite l.slot-iterator;
  rest : applied (left l.slot-iterator) (forgetting l.number) (at l.self) ≡ applied (has l.fn.self.slots) (forgetting l.number) (at l.fn.self);
}
