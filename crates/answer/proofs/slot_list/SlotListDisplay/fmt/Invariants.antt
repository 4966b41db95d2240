use Rattle.std.proofs.Common.{ℕ, List}
use Rattle.std.specs.Fmt.{IsPlainFormatter, HasWritten}
use Rattle.slots.specs.Meaning.{has}
use Rattle.slots.specs.Rising.{left}
use Rattle.answer.proofs.Listing.{Listed}
use Rattle.answer.proofs.slot_list.SlotListDisplay.fmt.Given as goal

abbrev pub invariant-loop-slot : goal.invariant-loop-slot
invariant-loop-slot g l = record {
  can : (goal.iterator-loop-slot g).can_next l.slot-iterator;
  ends : (goal.iterator-loop-slot g).is_finite l.slot-iterator;
  text : List ℕ;
  written : IsPlainFormatter l.fn.f → HasWritten g.W.Write.write_str_gives l.fn.f text l.f;
  listed : Listed text (has l.self.slots) (left l.slot-iterator);
}
