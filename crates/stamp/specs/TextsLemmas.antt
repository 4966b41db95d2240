-- The text of a stamp reads as that stamp, and no other text does; it is short and holds no space. Assumes nothing.
use Rattle.std.specs.Prelude.{◌≡◌, ℕ, ◌^◌, ◌<◌, ◌≤◌, Bool, true, false, ◌&&◌, ltb, List, ◌∷◌, ◌++◌, length, Some, decimal, Option, nat_lt, refl}
use Rattle.std.proofs.Common.{sym, ap, ◌∙◌, arith, length-append}
use mathlib.Core.HLevel.{is_prop→PathP}
use Rattle.std.proofs.Math.Bridge.{le_prop}
use Rattle.std.proofs.lemmas.Fmt.{length-decimal-le}
use Rattle.std.proofs.lemmas.Bool.{and_from, and_parts, lt-ltb, ltb-true}
use Rattle.text.specs.Cutting.{split}
use Rattle.text.specs.Numbers.{number_of}
use Rattle.text.proofs.Cuts.{Lacks, split_at, split_cuts}
use Rattle.text.proofs.Decimal.{number_decimal, decimal_number, lacks_decimal, lacks_between}
use Rattle.text.proofs.Options.{then_parts}
use Rattle.stamp.specs.declared.clock.ClockStamp.{ClockStamp}
use Rattle.stamp.specs.declared.ticket.Ticket.{Ticket}
use Rattle.stamp.specs.Texts.{clock_text, ticket_text}
use Rattle.stamp.specs.Reading.{clock_where, clock_with, clock_of, ticket_where, ticket_with, ticket_of}

-- two stamps with equal numbers are equal

pub same_clock : (a b : ClockStamp) → a.time ≡ b.time → a.station ≡ b.station → a ≡ b
same_clock a b et es = λ i. record {
  time = et i;
  station = es i;
  wide = is_prop→PathP (λ i. et i < 2 ^ 64) (λ i. le_prop) a.wide b.wide i;
  near = is_prop→PathP (λ i. es i < 2 ^ 16) (λ i. le_prop) a.near b.near i;
}

pub same_ticket : (a b : Ticket) → a.number ≡ b.number → a ≡ b
same_ticket a b e = λ i. record { number = e i; wide = is_prop→PathP (λ i. e i < 2 ^ 32) (λ i. le_prop) a.wide b.wide i }

-- the numbers of a stamp make that stamp

clock_made : (t s : ℕ) (b : Bool) (e : (nat_lt t (2 ^ 64) && nat_lt s (2 ^ 16)) ≡ b) (x : ClockStamp) → x.time ≡ t → x.station ≡ s → clock_where t s b e ≡ Some x
clock_made t s true e x et es = ap Some (same_clock _ x (sym et) (sym es))
clock_made t s false e x et es =
    let z : (nat_lt x.time (2 ^ 64) && nat_lt x.station (2 ^ 16)) ≡ true = and_from _ _ (lt-ltb _ _ x.wide) (lt-ltb _ _ x.near) in
    absurd (grind arith)

make_clock : (x : ClockStamp) → clock_with x.time x.station ≡ Some x
unfolding clock_with
make_clock x = clock_made _ _ _ refl x refl refl

pub some_clock : (x : ClockStamp) (o : Option ClockStamp) → clock_with x.time x.station ≡ o → Some x ≡ o
some_clock x o e = sym (make_clock x) ∙ e

clock_has : (t s : ℕ) (b : Bool) (e : (nat_lt t (2 ^ 64) && nat_lt s (2 ^ 16)) ≡ b) (x : ClockStamp) → clock_where t s b e ≡ Some x → (t ≡ x.time) × (s ≡ x.station)
clock_has t s true e x h =
    let fit = and_parts (nat_lt t (2 ^ 64)) (nat_lt s (2 ^ 16)) e in
    let same : record { time = t; station = s; wide = ltb-true _ _ fit.0; near = ltb-true _ _ fit.1 } ≡ x = cc in
    (ap (λ (y : ClockStamp). y.time) same, ap (λ (y : ClockStamp). y.station) same)
clock_has t s false e x h = absurd (grind arith)

made_clock : (t s : ℕ) (x : ClockStamp) → clock_with t s ≡ Some x → (t ≡ x.time) × (s ≡ x.station)
unfolding clock_with
made_clock t s x h = clock_has t s _ refl x h

ticket_made : (n : ℕ) (b : Bool) (e : ltb n (2 ^ 32) ≡ b) (x : Ticket) → x.number ≡ n → ticket_where n b e ≡ Some x
ticket_made n true e x en = ap Some (same_ticket _ x (sym en))
ticket_made n false e x en =
    let z : ltb x.number (2 ^ 32) ≡ true = lt-ltb _ _ x.wide in
    absurd (grind arith)

make_ticket : (x : Ticket) → ticket_with x.number ≡ Some x
unfolding ticket_with
make_ticket x = ticket_made _ _ refl x refl

pub some_ticket : (x : Ticket) (o : Option Ticket) → ticket_with x.number ≡ o → Some x ≡ o
some_ticket x o e = sym (make_ticket x) ∙ e

ticket_has : (n : ℕ) (b : Bool) (e : ltb n (2 ^ 32) ≡ b) (x : Ticket) → ticket_where n b e ≡ Some x → n ≡ x.number
ticket_has n true e x h =
    let same : record { number = n; wide = ltb-true _ _ e } ≡ x = cc in
    ap (λ (y : Ticket). y.number) same
ticket_has n false e x h = absurd (grind arith)

made_ticket : (n : ℕ) (x : Ticket) → ticket_with n ≡ Some x → n ≡ x.number
unfolding ticket_with
made_ticket n x h = ticket_has n _ refl x h

-- a stamp of a clock

pub clock_back : (x : ClockStamp) → clock_of (clock_text x) ≡ Some x
clock_back x =
    let t : x.time ≤ 18446744073709551615 = omega (arith, x.wide) in
    let s : x.station ≤ 65535 = omega (arith, x.near) in
    rw (split_at 46 (decimal x.time) (decimal x.station) (lacks_decimal 46 x.time x.wide (λ d. omega arith)), number_decimal 18446744073709551615 x.time t x.wide, number_decimal 65535 x.station s (omega arith)) (make_clock x)

pub clock_one_text : (bs : List ℕ) (x : ClockStamp) → clock_of bs ≡ Some x → bs ≡ clock_text x
clock_one_text bs x e =
    let p = then_parts (split 46 bs) _ x e in
    let cut = split_cuts 46 bs p.0.0 p.0.1 p.1 in
    let t = then_parts (number_of 18446744073709551615 p.0.0) _ x p.2 in
    let s = then_parts (number_of 65535 p.0.1) _ x t.2 in
    let has = made_clock t.0 s.0 x s.2 in
    let a = (decimal_number 18446744073709551615 t.0 p.0.0 (omega arith) t.1).0 ∙ ap decimal has.0 in
    let b = (decimal_number 65535 s.0 p.0.1 (omega arith) s.1).0 ∙ ap decimal has.1 in
    cut.whole ∙ (λ i. a i ++ 46 ∷ b i)

pub clock_no_space : (x : ClockStamp) → Lacks 32 (clock_text x)
clock_no_space x =
    lacks_between 32 46 x.time (decimal x.station) x.wide (λ d. omega arith) (λ d. omega arith) (lacks_decimal 32 x.station (omega (arith, x.near)) (λ d. omega arith))

pub clock_short : (x : ClockStamp) → length (clock_text x) ≤ 40
clock_short x =
    let t = length-decimal-le 20 x.time (omega arith) (omega (arith, x.wide)) x.wide in
    let s = length-decimal-le 5 x.station (omega arith) (omega (arith, x.near)) (omega (arith, x.near)) in
    omega (arith, length-append (decimal x.time) (46 ∷ decimal x.station))

-- a ticket

pub ticket_back : (x : Ticket) → ticket_of (ticket_text x) ≡ Some x
ticket_back x =
    let n : x.number ≤ 4294967295 = omega (arith, x.wide) in
    rw (number_decimal 4294967295 x.number n (omega arith)) (make_ticket x)

pub ticket_one_text : (bs : List ℕ) (x : Ticket) → ticket_of bs ≡ Some x → bs ≡ ticket_text x
ticket_one_text bs x e =
    let n = then_parts (number_of 4294967295 bs) _ x e in
    (decimal_number 4294967295 n.0 bs (omega arith) n.1).0 ∙ ap decimal (made_ticket n.0 x n.2)

pub ticket_no_space : (x : Ticket) → Lacks 32 (ticket_text x)
ticket_no_space x = lacks_decimal 32 x.number (omega (arith, x.wide)) (λ d. omega arith)

pub ticket_short : (x : Ticket) → length (ticket_text x) ≤ 40
ticket_short x =
    let n = length-decimal-le 10 x.number (omega arith) (omega (arith, x.wide)) (omega (arith, x.wide)) in
    omega arith
