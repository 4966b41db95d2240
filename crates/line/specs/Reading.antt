-- What a line reads as: a call, or the refusal that it meets. Assumes nothing.
use Rattle.std.specs.Prelude.{ℕ, Bool, cond, List, [], ◌∷◌, length, is_some, Some, None, Err, Option, Result, ◌==◌, nat_lt, slice_index_or}
use Rattle.std.specs.Option.{option_map, ok_or}
use Rattle.text.specs.Numbers.{number_of}
use Rattle.text.specs.Steps.{and_then}
use Rattle.refusal.specs.declared.Refusal.{Refusal}
use Rattle.refusal.specs.declared.Refusal.TheVariants.{NoRule, Unreadable}
use Rattle.rule.specs.declared.Rule.{Rule}
use Rattle.rule.specs.Making.{make}
use Rattle.rule.specs.Reading.{network_of, action_of, ports_of, parts_in, fields}
use Rattle.protocol.specs.declared.Call.{Call}
use Rattle.protocol.specs.declared.Call.TheVariants.{Begin, Fetch, Read, Write, Drop, Forward, Commit, Abort, Learn, Receipt, Truncate}
use Rattle.line.specs.Cutting.{placed}

-- what stands behind the letter of a call, and the call that it makes
pub data Form (S : Type 0) : Type 0 where
  of_session : (ℕ → Call S) → Form S
  of_numbers : (ℕ → ℕ → Call S) → Form S
  of_rule : (ℕ → ℕ → Rule → Call S) → Form S
  of_change : (ℕ → S → Call S) → Form S
  of_stamp : (S → Call S) → Form S

-- the letters are b, f, r, w, d, p, c, a, l, k and t
abbrev pub form : {S : Type 0} → ℕ → Option (Form S)
form b =
    cond (b == 98) (Some (of_session Begin))
    (cond (b == 102) (Some (of_numbers Fetch))
    (cond (b == 114) (Some (of_numbers Read))
    (cond (b == 119) (Some (of_rule Write))
    (cond (b == 100) (Some (of_numbers Drop))
    (cond (b == 112) (Some (of_change Forward))
    (cond (b == 99) (Some (of_session Commit))
    (cond (b == 97) (Some (of_session Abort))
    (cond (b == 108) (Some (of_session Learn))
    (cond (b == 107) (Some (of_numbers Receipt))
    (cond (b == 116) (Some (of_stamp Truncate)) None))))))))))

-- the letter is the whole first field
abbrev pub form_of : {S : Type 0} → List ℕ → Option (Form S)
form_of [] = None
form_of (b ∷ []) = form b
form_of (b ∷ c ∷ bs) = None

-- what a field can be
pub data Kind : Type 0 where
  a_number : Kind
  a_stamp : Kind
  a_network : Kind
  an_action : Kind
  two_ports : Kind

-- a rule is three fields
abbrev pub kinds : {S : Type 0} → Form S → List Kind
kinds (of_session call) = a_number ∷ []
kinds (of_numbers call) = a_number ∷ a_number ∷ []
kinds (of_rule call) = a_number ∷ a_number ∷ a_network ∷ an_action ∷ two_ports ∷ []
kinds (of_change call) = a_number ∷ a_stamp ∷ []
kinds (of_stamp call) = a_stamp ∷ []

-- sessions, slots and numbers have 32 bits
abbrev pub numeral : List ℕ → Option ℕ
numeral f = number_of 4294967295 f

-- whether a field reads as what it should be; stamps are read as their kind reads them
abbrev pub readable : {S : Type 0} → (List ℕ → Option S) → Kind → List ℕ → Bool
readable reads a_number f = is_some (numeral f)
readable reads a_stamp f = is_some (reads f)
readable reads a_network f = is_some (network_of f)
readable reads an_action f = is_some (action_of f)
readable reads two_ports f = is_some (ports_of f)

-- the place of the first field that is unreadable or surplus, or the line's end where a field is missing
abbrev pub first_wrong : {S : Type 0} → (List ℕ → Option S) → ℕ → List Kind → List (ℕ × List ℕ) → Option ℕ
first_wrong reads end [] [] = None
first_wrong reads end [] (f ∷ fs) = Some f.0
first_wrong reads end (k ∷ ks) [] = Some end
first_wrong reads end (k ∷ ks) (f ∷ fs) = cond (readable reads k f.1) (first_wrong reads end ks fs) (Some f.0)

-- the n-th field's place and bytes, from 0
abbrev pub place : ℕ → List (ℕ × List ℕ) → ℕ
place n fs = (slice_index_or fs n (0, [])).0

abbrev pub bytes : ℕ → List (ℕ × List ℕ) → List ℕ
bytes n fs = (slice_index_or fs n (0, [])).1

-- the call that readable fields make; there is none only where the parts of a rule make none
abbrev pub call_in : {S : Type 0} → (List ℕ → Option S) → Form S → List (ℕ × List ℕ) → Option (Call S)
call_in reads (of_session call) fs = option_map call (numeral (bytes 0 fs))
call_in reads (of_numbers call) fs = and_then (numeral (bytes 0 fs)) (λ s. option_map (call s) (numeral (bytes 1 fs)))
call_in reads (of_rule call) fs =
    and_then (numeral (bytes 0 fs)) (λ s. and_then (numeral (bytes 1 fs)) (λ n.
    and_then (parts_in (bytes 2 fs ∷ bytes 3 fs ∷ bytes 4 fs ∷ [])) (λ p. option_map (call s n) (make p))))
call_in reads (of_change call) fs = and_then (numeral (bytes 0 fs)) (λ s. option_map (call s) (reads (bytes 1 fs)))
call_in reads (of_stamp call) fs = option_map call (reads (bytes 0 fs))

-- a wrong field comes before a rule that is none, which is told at its first byte
abbrev pub refuse_or : {S : Type 0} → Option ℕ → Option (Call S) → ℕ → Result (Call S) Refusal
refuse_or (Some wrong) call rule = Err (Unreadable wrong)
refuse_or None call rule = ok_or call (NoRule rule)

abbrev pub read_form : {S : Type 0} → (List ℕ → Option S) → ℕ → Option (Form S) → List (ℕ × List ℕ) → Result (Call S) Refusal
read_form reads end None fs = Err (Unreadable 0)
read_form reads end (Some f) fs = refuse_or (first_wrong reads end (kinds f) fs) (call_in reads f fs) (place 2 fs)

-- the first field is the letter
abbrev pub read_fields : {S : Type 0} → (List ℕ → Option S) → ℕ → List (ℕ × List ℕ) → Result (Call S) Refusal
read_fields reads end [] = Err (Unreadable 0)
read_fields reads end (f ∷ fs) = read_form reads end (form_of f.1) fs

-- the call that a line writes, or the refusal; a line over 80 bytes is refused at 80
abbrev pub call_of : {S : Type 0} → (List ℕ → Option S) → List ℕ → Result (Call S) Refusal
call_of reads bs = cond (nat_lt 80 (length bs)) (Err (Unreadable 80)) (read_fields reads (length bs) (placed 0 (fields bs)))
