-- The reading of a call field by field, as the code goes. Assumes nothing.
use Rattle.std.specs.Prelude.{ℕ, cond, List, [], ◌∷◌, Some, None, Ok, Err, Option, Result, ◌==◌}
use Rattle.std.specs.Option.{ok_or}
use Rattle.refusal.specs.declared.Refusal.{Refusal}
use Rattle.refusal.specs.declared.Refusal.TheVariants.{NoRule, Unreadable}
use Rattle.rule.specs.declared.Rule.{Rule}
use Rattle.rule.specs.declared.Parts.{Parts}
use Rattle.rule.specs.Making.{action_number, make}
use Rattle.rule.specs.Reading.{network_of, action_of, ports_of}
use Rattle.protocol.specs.declared.Call.{Call}
use Rattle.protocol.specs.declared.Call.TheVariants.{Begin, Fetch, Read, Write, Drop, Forward, Commit, Abort, Learn, Receipt, Truncate}
use Rattle.line.specs.Cutting.{rest_of}
use Rattle.line.specs.Reading.{numeral, place}

-- one step after another, up to the first refusal
abbrev pub next : {X Y : Type 0} → Result X Refusal → (X → Result Y Refusal) → Result Y Refusal
next (Ok x) step = step x
next (Err e) step = Err e

-- the first of the fields that are left
abbrev pub first_as : {X : Type 0} → (List ℕ → Option X) → ℕ → List (ℕ × List ℕ) → Result X Refusal
first_as reads end [] = Err (Unreadable end)
first_as reads end (f ∷ fs) = ok_or (reads f.1) (Unreadable f.0)

-- no field is left
abbrev pub no_more : List (ℕ × List ℕ) → Result (Unit {0}) Refusal
no_more [] = Ok tt
no_more (f ∷ fs) = Err (Unreadable f.0)

abbrev pub last_as : {X : Type 0} → (List ℕ → Option X) → ℕ → List (ℕ × List ℕ) → Result X Refusal
last_as reads end fs = next (first_as reads end fs) (λ x. next (no_more (rest_of fs)) (λ _. Ok x))

-- a field, and another that is the last
abbrev pub two_as : {X Y : Type 0} → (List ℕ → Option X) → (List ℕ → Option Y) → ℕ → List (ℕ × List ℕ) → Result (X × Y) Refusal
two_as one other end fs = next (first_as one end fs) (λ x. next (last_as other end (rest_of fs)) (λ y. Ok (x, y)))

-- the parts of a rule in the last three fields
abbrev pub parts_as : ℕ → List (ℕ × List ℕ) → Result Parts Refusal
parts_as end fs =
    next (first_as network_of end fs) (λ n. next (two_as action_of ports_of end (rest_of fs)) (λ q.
    Ok (record { address = n.0; prefix = n.1; action = action_number q.0; first = q.1.0; last = q.1.1 })))

-- the rule in the last three fields
abbrev pub rule_as : ℕ → List (ℕ × List ℕ) → Result Rule Refusal
rule_as end fs = next (parts_as end fs) (λ p. ok_or (make p) (NoRule (place 0 fs)))

abbrev pub write_as : {S : Type 0} → ℕ → List (ℕ × List ℕ) → Result (Call S) Refusal
write_as end fs =
    next (first_as numeral end fs) (λ s. next (first_as numeral end (rest_of fs)) (λ n.
    next (rule_as end (rest_of (rest_of fs))) (λ r. Ok (Write s n r))))

abbrev pub session_as : {S : Type 0} → (ℕ → Call S) → ℕ → List (ℕ × List ℕ) → Result (Call S) Refusal
session_as call end fs = next (last_as numeral end fs) (λ s. Ok (call s))

abbrev pub numbers_as : {S : Type 0} → (ℕ → ℕ → Call S) → ℕ → List (ℕ × List ℕ) → Result (Call S) Refusal
numbers_as call end fs = next (two_as numeral numeral end fs) (λ p. Ok (call p.0 p.1))

-- by the letter
abbrev pub by_letter : {S : Type 0} → (List ℕ → Option S) → ℕ → ℕ → List (ℕ × List ℕ) → Result (Call S) Refusal
by_letter reads end b fs =
    cond (b == 98) (session_as Begin end fs)
    (cond (b == 102) (numbers_as Fetch end fs)
    (cond (b == 114) (numbers_as Read end fs)
    (cond (b == 119) (write_as end fs)
    (cond (b == 100) (numbers_as Drop end fs)
    (cond (b == 112) (next (two_as numeral reads end fs) (λ p. Ok (Forward p.0 p.1)))
    (cond (b == 99) (session_as Commit end fs)
    (cond (b == 97) (session_as Abort end fs)
    (cond (b == 108) (session_as Learn end fs)
    (cond (b == 107) (numbers_as Receipt end fs)
    (cond (b == 116) (next (last_as reads end fs) (λ s. Ok (Truncate s))) (Err (Unreadable 0))))))))))))

abbrev pub letter_of : List ℕ → Option ℕ
letter_of [] = None
letter_of (b ∷ []) = Some b
letter_of (b ∷ c ∷ bs) = None

abbrev pub with_letter : {S : Type 0} → (List ℕ → Option S) → ℕ → Option ℕ → List (ℕ × List ℕ) → Result (Call S) Refusal
with_letter reads end None fs = Err (Unreadable 0)
with_letter reads end (Some b) fs = by_letter reads end b fs

abbrev pub fields_as : {S : Type 0} → (List ℕ → Option S) → ℕ → List (ℕ × List ℕ) → Result (Call S) Refusal
fields_as reads end [] = Err (Unreadable 0)
fields_as reads end (f ∷ fs) = with_letter reads end (letter_of f.1) fs
