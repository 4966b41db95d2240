-- What a slot set means. It is kept as one word, in which bit x stands for slot x; nothing else knows that. Assumes nothing.
use Rattle.std.specs.Prelude.{ℕ, zero, suc, ◌/◌, ◌%◌, Bool, ◌&&◌, ◌==◌, nat_lt}
use Rattle.slots.specs.declared.SlotSet.{SlotSet}

-- whether bit x of a word is set
unfoldable pub bit : ℕ → ℕ → Bool
bit w zero = w % 2 == 1
bit w (suc x) = bit (w / 2) x

-- whether a number is in the set
unfoldable pub has : SlotSet → ℕ → Bool
has s x = nat_lt x 64 && bit s.bits x
