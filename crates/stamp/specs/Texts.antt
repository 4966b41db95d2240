-- How stamps are written. Assumes nothing.
use Rattle.std.specs.Prelude.{ℕ, List, ◌∷◌, ◌++◌, decimal}
use Rattle.stamp.specs.declared.clock.ClockStamp.{ClockStamp}
use Rattle.stamp.specs.declared.ticket.Ticket.{Ticket}

-- time and station in decimal, with a point between
abbrev pub clock_text : ClockStamp → List ℕ
clock_text s = decimal s.time ++ (46 ∷ decimal s.station)

-- the number in decimal
abbrev pub ticket_text : Ticket → List ℕ
ticket_text t = decimal t.number
