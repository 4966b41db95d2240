-- What is read in steps. Assumes nothing.
use Rattle.std.specs.Prelude.{Some, None, Option}

-- the next step, if this one read something
abbrev pub and_then : {X Y : Type 0} → Option X → (X → Option Y) → Option Y
and_then None next = None
and_then (Some x) next = next x
