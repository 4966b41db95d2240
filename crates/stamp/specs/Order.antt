-- The order of keys, and the key of each kind of stamp. Assumes nothing.
use Rattle.std.specs.Prelude.{Bool, ◌&&◌, ◌||◌, ◌==◌, nat_lt}
use Rattle.stamp.specs.declared.Key.{Key}
use Rattle.stamp.specs.declared.clock.ClockStamp.{ClockStamp}
use Rattle.stamp.specs.declared.ticket.Ticket.{Ticket}

-- the first numbers decide, and where they are equal the second
abbrev pub key_before : Key → Key → Bool
key_before a b = nat_lt a.first b.first || (a.first == b.first && nat_lt a.second b.second)

-- by time, then station
abbrev pub clock_key : ClockStamp → Key
clock_key s = record { first = s.time; second = s.station }

-- by number
abbrev pub ticket_key : Ticket → Key
ticket_key t = record { first = t.number; second = 0 }
