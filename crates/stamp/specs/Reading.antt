-- Which stamp a field writes. The byte 46 is '.'. Assumes nothing.
use Rattle.std.specs.Prelude.{◌≡◌, ℕ, ◌^◌, Bool, true, false, ◌&&◌, List, Some, None, Option, nat_lt, refl}
use Rattle.std.proofs.lemmas.Bool.{and_parts, ltb-true}
use Rattle.text.specs.Cutting.{split}
use Rattle.text.specs.Numbers.{number_of}
use Rattle.text.specs.Steps.{and_then}
use Rattle.stamp.specs.declared.clock.ClockStamp.{ClockStamp}
use Rattle.stamp.specs.declared.ticket.Ticket.{Ticket}

abbrev pub clock_where : (t s : ℕ) (b : Bool) → (nat_lt t (2 ^ 64) && nat_lt s (2 ^ 16)) ≡ b → Option ClockStamp
clock_where t s true e =
    let fit = and_parts (nat_lt t (2 ^ 64)) (nat_lt s (2 ^ 16)) e in
    Some (record { time = t; station = s; wide = ltb-true _ _ fit.0; near = ltb-true _ _ fit.1 })
clock_where t s false e = None

-- the stamp of this time and station, if they fit their widths
unfoldable pub clock_with : ℕ → ℕ → Option ClockStamp
clock_with t s = clock_where t s (nat_lt t (2 ^ 64) && nat_lt s (2 ^ 16)) refl

-- a time and a station with one point between them
abbrev pub clock_of : List ℕ → Option ClockStamp
clock_of bs =
    and_then (split 46 bs) (λ p. and_then (number_of 18446744073709551615 p.0) (λ t.
    and_then (number_of 65535 p.1) (λ s. clock_with t s)))

abbrev pub ticket_where : (n : ℕ) (b : Bool) → nat_lt n (2 ^ 32) ≡ b → Option Ticket
ticket_where n true e = Some (record { number = n; wide = ltb-true _ _ e })
ticket_where n false e = None

-- the ticket of this number, if it fits its width
unfoldable pub ticket_with : ℕ → Option Ticket
ticket_with n = ticket_where n (nat_lt n (2 ^ 32)) refl

-- one number
abbrev pub ticket_of : List ℕ → Option Ticket
ticket_of bs = and_then (number_of 4294967295 bs) (λ n. ticket_with n)
