use Rattle.std.proofs.Common.{◌≡◌, ℕ, List, ◌++◌, vec_items}
use Rattle.slots.specs.Meaning.{has}
use Rattle.slots.specs.Rising.{left}
use Rattle.answer.proofs.Listing.{Listed}
use Rattle.answer.proofs.slot_list.push_slots.Given as goal

abbrev pub invariant-loop-slot : goal.invariant-loop-slot
invariant-loop-slot l = record {
  can : goal.iterator-loop-slot.can_next l.slot-iterator;
  ends : goal.iterator-loop-slot.is_finite l.slot-iterator;
  text : List ℕ;
  written : vec_items l.out ≡ vec_items l.fn.out ++ text;
  listed : Listed text (has l.fn.slots) (left l.slot-iterator);
}
