-- A call read field by field is the call or the refusal that its line reads as. Assumes nothing.
use Rattle.std.proofs.Common.{◌≡◌, ℕ, ◌≤◌, Bool, true, false, cond, eqb, ltb, List, [], ◌∷◌, length, take, is_some, Some, None, Ok, Err, Option, Result, sym, refl, ap, ◌∙◌, arith}
use Rattle.std.proofs.lemmas.Bool.{cond-false}
use Rattle.std.proofs.lemmas.Bool.Decides.{nat_tests}
use Rattle.std.specs.Option.{option_map, ok_or}
use Rattle.text.specs.Steps.{and_then}
use Rattle.refusal.specs.declared.Refusal.{Refusal}
use Rattle.refusal.specs.declared.Refusal.TheVariants.{NoRule, Unreadable}
use Rattle.rule.specs.declared.Rule.{Rule}
use Rattle.rule.specs.Making.{action_number, make}
use Rattle.rule.specs.Reading.{network_of, action_of, ports_of, fields}
use Rattle.protocol.specs.declared.Call.{Call}
use Rattle.protocol.specs.declared.Call.TheVariants.{Begin, Fetch, Read, Write, Drop, Forward, Commit, Abort, Learn, Receipt, Truncate}
use Rattle.line.specs.declared.cutting.Line.{Line}
use Rattle.line.specs.declared.cutting.Line.TheVariants.{Empty, One, Two, Three, Four, Five, Six, More, TooLong}
use Rattle.line.specs.Cutting.{placed, is_too_long, fields_or_refusal, rest_of}
use Rattle.line.specs.Reading.{Form, of_session, of_numbers, of_rule, of_change, of_stamp, form, form_of, numeral, first_wrong, place, refuse_or, read_form, read_fields, call_of}
use Rattle.line.specs.Steps.{next, no_more, first_as, last_as, two_as, parts_as, rule_as, write_as, session_as, numbers_as, by_letter, letter_of, with_letter, fields_as}

next_next : {X Y Z : Type 0} (m : Result X Refusal) (k : X → Result Y Refusal) (l : Y → Result Z Refusal) → next (next m k) l ≡ next m (λ x. next (k x) l)
next_next (Ok x) k l = refl
next_next (Err e) k l = refl

-- every other case is a line that was cut
pub not_too_long : (l : Line) → (l ≡ TooLong → ⊥) → is_too_long l ≡ false
not_too_long Empty h = refl
not_too_long (One a) h = refl
not_too_long (Two a b) h = refl
not_too_long (Three a b c) h = refl
not_too_long (Four a b c d) h = refl
not_too_long (Five a b c d e) h = refl
not_too_long (Six a b c d e f) h = refl
not_too_long (More a b c d e f g) h = refl
not_too_long TooLong h = absurd (h refl)

module _ {S : Type 0} (reads : List ℕ → Option S) (end : ℕ) where
  -- a field that is there
  step : {X : Type 0} (at : ℕ) (o : Option X) (then : X → Result (Call S) Refusal) (w : Option ℕ) (c : Option (Call S)) (r : ℕ) → ((x : X) → o ≡ Some x → then x ≡ refuse_or w c r) → next (ok_or o (Unreadable at)) then ≡ refuse_or (cond (is_some o) w (Some at)) c r
  step at None then w c r h = refl
  step at (Some x) then w c r h = h x refl

  -- behind the last field
  ends : (fs : List (ℕ × List ℕ)) (v : Result (Call S) Refusal) (c : Option (Call S)) (r : ℕ) → v ≡ ok_or c (NoRule r) → next (no_more fs) (λ _. v) ≡ refuse_or (first_wrong reads end [] fs) c r
  ends [] v c r e = e
  ends (f ∷ fs) v c r e = refl

  -- the steps of the last field and of the last two, one after another
  last_steps : {X Z : Type 0} (read : List ℕ → Option X) (fs : List (ℕ × List ℕ)) (then : X → Result Z Refusal) → next (last_as read end fs) then ≡ next (first_as read end fs) (λ x. next (no_more (rest_of fs)) (λ _. then x))
  last_steps read fs then =
      next_next (first_as read end fs) (λ x. next (no_more (rest_of fs)) (λ _. Ok x)) then
      ∙ (λ i. next (first_as read end fs) (λ x. next_next (no_more (rest_of fs)) (λ _. Ok x) then i))

  two_steps : {X Y Z : Type 0} (one : List ℕ → Option X) (other : List ℕ → Option Y) (fs : List (ℕ × List ℕ)) (then : X × Y → Result Z Refusal) → next (two_as one other end fs) then ≡ next (first_as one end fs) (λ x. next (first_as other end (rest_of fs)) (λ y. next (no_more (rest_of (rest_of fs))) (λ _. then (x, y))))
  two_steps one other fs then =
      next_next (first_as one end fs) (λ x. next (last_as other end (rest_of fs)) (λ y. Ok (x, y))) then
      ∙ (λ i. next (first_as one end fs) (λ x. next_next (last_as other end (rest_of fs)) (λ y. Ok (x, y)) then i))
      ∙ (λ i. next (first_as one end fs) (λ x. last_steps other (rest_of fs) (λ y. then (x, y)) i))

  one_read : {X : Type 0} (read : List ℕ → Option X) (call : X → Call S) (f : ℕ × List ℕ) (fs : List (ℕ × List ℕ)) (r : ℕ) → next (last_as read end (f ∷ fs)) (λ x. Ok (call x)) ≡ refuse_or (cond (is_some (read f.1)) (first_wrong reads end [] fs) (Some f.0)) (option_map call (read f.1)) r
  one_read read call f fs r = last_steps read (f ∷ fs) _ ∙ step f.0 (read f.1) _ _ _ _ (λ x e. ends fs _ _ _ (ap (λ o. ok_or (option_map call o) (NoRule r)) (sym e)))

  two_read : {X : Type 0} (read : List ℕ → Option X) (call : ℕ → X → Call S) (f g : ℕ × List ℕ) (fs : List (ℕ × List ℕ)) (r : ℕ) → next (two_as numeral read end (f ∷ g ∷ fs)) (λ p. Ok (call p.0 p.1)) ≡ refuse_or (cond (is_some (numeral f.1)) (cond (is_some (read g.1)) (first_wrong reads end [] fs) (Some g.0)) (Some f.0)) (and_then (numeral f.1) (λ s. option_map (call s) (read g.1))) r
  two_read read call f g fs r =
      two_steps numeral read (f ∷ g ∷ fs) _
      ∙ step f.0 (numeral f.1) _ _ _ _ (λ s e. step g.0 (read g.1) _ _ _ _ (λ x d. ends fs _ _ _
      (λ i. ok_or (and_then (sym e i) (λ s. option_map (call s) (sym d i))) (NoRule r))))

  session_same : (call : ℕ → Call S) (fs : List (ℕ × List ℕ)) → session_as call end fs ≡ read_form reads end (Some (of_session call)) fs
  session_same call [] = refl
  session_same call (f ∷ fs) = one_read numeral call f fs _

  stamp_same : (call : S → Call S) (fs : List (ℕ × List ℕ)) → next (last_as reads end fs) (λ s. Ok (call s)) ≡ read_form reads end (Some (of_stamp call)) fs
  stamp_same call [] = refl
  stamp_same call (f ∷ fs) = one_read reads call f fs _

  numbers_same : (call : ℕ → ℕ → Call S) (fs : List (ℕ × List ℕ)) → numbers_as call end fs ≡ read_form reads end (Some (of_numbers call)) fs
  numbers_same call [] = refl
  numbers_same call (f ∷ []) = two_steps numeral numeral (f ∷ []) _ ∙ step f.0 (numeral f.1) _ (Some end) _ _ (λ s e. refl)
  numbers_same call (f ∷ g ∷ fs) = two_read numeral call f g fs _

  change_same : (call : ℕ → S → Call S) (fs : List (ℕ × List ℕ)) → next (two_as numeral reads end fs) (λ p. Ok (call p.0 p.1)) ≡ read_form reads end (Some (of_change call)) fs
  change_same call [] = refl
  change_same call (f ∷ []) = two_steps numeral reads (f ∷ []) _ ∙ step f.0 (numeral f.1) _ (Some end) _ _ (λ s e. refl)
  change_same call (f ∷ g ∷ fs) = two_read reads call f g fs _

  -- the steps of a rule
  rule_steps : (fs : List (ℕ × List ℕ)) (then : Rule → Result (Call S) Refusal) → next (rule_as end fs) then ≡ next (first_as network_of end fs) (λ n. next (first_as action_of end (rest_of fs)) (λ a. next (first_as ports_of end (rest_of (rest_of fs))) (λ x. next (no_more (rest_of (rest_of (rest_of fs)))) (λ _. next (ok_or (make (record { address = n.0; prefix = n.1; action = action_number a; first = x.0; last = x.1 })) (NoRule (place 0 fs))) then))))
  rule_steps fs then =
      next_next (parts_as end fs) (λ p. ok_or (make p) (NoRule (place 0 fs))) then
      ∙ next_next (first_as network_of end fs) _ (λ p. next (ok_or (make p) (NoRule (place 0 fs))) then)
      ∙ (λ i. next (first_as network_of end fs) (λ n. next_next (two_as action_of ports_of end (rest_of fs)) (λ q. Ok (record { address = n.0; prefix = n.1; action = action_number q.0; first = q.1.0; last = q.1.1 })) (λ p. next (ok_or (make p) (NoRule (place 0 fs))) then) i))
      ∙ (λ i. next (first_as network_of end fs) (λ n. two_steps action_of ports_of (rest_of fs) (λ q. next (ok_or (make (record { address = n.0; prefix = n.1; action = action_number q.0; first = q.1.0; last = q.1.1 })) (NoRule (place 0 fs))) then) i))

  made : (o : Option Rule) (call : Rule → Call S) (r : ℕ) → next (ok_or o (NoRule r)) (λ x. Ok (call x)) ≡ ok_or (option_map call o) (NoRule r)
  made None call r = refl
  made (Some x) call r = refl

  write_same : (fs : List (ℕ × List ℕ)) → write_as end fs ≡ read_form reads end (Some (of_rule Write)) fs
  write_same [] = refl
  write_same (f ∷ []) = step f.0 (numeral f.1) _ (Some end) _ _ (λ s e. refl)
  write_same (f ∷ g ∷ []) = step f.0 (numeral f.1) _ _ _ _ (λ s e. step g.0 (numeral g.1) _ (Some end) _ _ (λ l d. refl))
  write_same (f ∷ g ∷ h ∷ []) =
      step f.0 (numeral f.1) _ _ _ _ (λ s e. step g.0 (numeral g.1) _ _ _ _ (λ l d. rule_steps (h ∷ []) _ ∙ step h.0 (network_of h.1) _ (Some end) _ _ (λ n p. refl)))
  write_same (f ∷ g ∷ h ∷ i ∷ []) =
      step f.0 (numeral f.1) _ _ _ _ (λ s e. step g.0 (numeral g.1) _ _ _ _ (λ l d. rule_steps (h ∷ i ∷ []) _
      ∙ step h.0 (network_of h.1) _ _ _ _ (λ n p. step i.0 (action_of i.1) _ (Some end) _ _ (λ a q. refl))))
  write_same (f ∷ g ∷ h ∷ i ∷ j ∷ fs) =
      step f.0 (numeral f.1) _ _ _ _ (λ s e. step g.0 (numeral g.1) _ _ _ _ (λ l d. rule_steps (h ∷ i ∷ j ∷ fs) _
      ∙ step h.0 (network_of h.1) _ _ _ _ (λ n p. step i.0 (action_of i.1) _ _ _ _ (λ a q. step j.0 (ports_of j.1) _ _ _ _ (λ x w. ends fs _ _ _
      (made (make (record { address = n.0; prefix = n.1; action = action_number a; first = x.0; last = x.1 })) (Write s l) h.0
      ∙ (λ k. ok_or (and_then (sym e k) (λ s. and_then (sym d k) (λ l. and_then (and_then (sym p k) (λ n. and_then (sym q k) (λ a. option_map (λ x. record { address = n.0; prefix = n.1; action = action_number a; first = x.0; last = x.1 }) (sym w k)))) (λ parts. option_map (Write s l) (make parts))))) (NoRule h.0))))))))

  picked : (t : Bool) (x y : Option (Form S)) (u v : Result (Call S) Refusal) (fs : List (ℕ × List ℕ)) → u ≡ read_form reads end x fs → v ≡ read_form reads end y fs → cond t u v ≡ read_form reads end (cond t x y) fs
  picked true x y u v fs p q = p
  picked false x y u v fs p q = q

  letter_same : (b : ℕ) (fs : List (ℕ × List ℕ)) → by_letter reads end b fs ≡ read_form reads end (form b) fs
  letter_same b fs =
      picked (eqb b 98) _ _ _ _ fs (session_same Begin fs)
      (picked (eqb b 102) _ _ _ _ fs (numbers_same Fetch fs)
      (picked (eqb b 114) _ _ _ _ fs (numbers_same Read fs)
      (picked (eqb b 119) _ _ _ _ fs (write_same fs)
      (picked (eqb b 100) _ _ _ _ fs (numbers_same Drop fs)
      (picked (eqb b 112) _ _ _ _ fs (change_same Forward fs)
      (picked (eqb b 99) _ _ _ _ fs (session_same Commit fs)
      (picked (eqb b 97) _ _ _ _ fs (session_same Abort fs)
      (picked (eqb b 108) _ _ _ _ fs (session_same Learn fs)
      (picked (eqb b 107) _ _ _ _ fs (numbers_same Receipt fs)
      (picked (eqb b 116) _ None _ _ fs (stamp_same Truncate fs) refl))))))))))

  -- no call looks further than the sixth field behind the letter
  letter_take : (b : ℕ) (fs : List (ℕ × List ℕ)) → by_letter reads end b (take 6 fs) ≡ by_letter reads end b fs
  letter_take b [] = refl
  letter_take b (f ∷ []) = refl
  letter_take b (f ∷ g ∷ []) = refl
  letter_take b (f ∷ g ∷ h ∷ []) = refl
  letter_take b (f ∷ g ∷ h ∷ i ∷ []) = refl
  letter_take b (f ∷ g ∷ h ∷ i ∷ j ∷ []) = refl
  letter_take b (f ∷ g ∷ h ∷ i ∷ j ∷ k ∷ fs) = refl

  with_same : (f : List ℕ) (fs : List (ℕ × List ℕ)) → with_letter reads end (letter_of f) fs ≡ read_form reads end (form_of f) fs
  with_same [] fs = refl
  with_same (b ∷ []) fs = letter_same b fs
  with_same (b ∷ c ∷ bs) fs = refl

  -- read step by step
  pub read_same : (fs : List (ℕ × List ℕ)) → fields_as reads end fs ≡ read_fields reads end fs
  read_same [] = refl
  read_same (f ∷ fs) = with_same f.1 fs

  with_take : (f : List ℕ) (fs : List (ℕ × List ℕ)) → with_letter reads end (letter_of f) (take 6 fs) ≡ with_letter reads end (letter_of f) fs
  with_take [] fs = refl
  with_take (b ∷ []) fs = letter_take b fs
  with_take (b ∷ c ∷ bs) fs = refl

  -- and so of the fields up to the seventh
  pub fields_same : (fs : List (ℕ × List ℕ)) → fields_as reads end (take 7 fs) ≡ read_fields reads end fs
  fields_same [] = refl
  fields_same (f ∷ fs) = with_take f.1 fs ∙ with_same f.1 fs

  call_by : (bs : List ℕ) (t : Bool) → next (cond t (Err (Unreadable 80)) (Ok (take 7 (placed 0 (fields bs))))) (fields_as reads end) ≡ cond t (Err (Unreadable 80)) (read_fields reads end (placed 0 (fields bs)))
  call_by bs true = refl
  call_by bs false = fields_same (placed 0 (fields bs))

-- a line that is cut, and then read
pub call_same : {S : Type 0} (reads : List ℕ → Option S) (bs : List ℕ) → next (fields_or_refusal bs) (fields_as reads (length bs)) ≡ call_of reads bs
call_same reads bs = call_by reads (length bs) bs (ltb 80 (length bs))

-- a line that is cut while it is read
pub call_read : {S : Type 0} (reads : List ℕ → Option S) (bs : List ℕ) → length bs ≤ 80 → fields_as reads (length bs) (placed 0 (fields bs)) ≡ call_of reads bs
call_read reads bs h =
    let within : ltb 80 (length bs) ≡ false = grind (arith, nat_tests) in
    read_same reads (length bs) (placed 0 (fields bs))
    ∙ sym (cond-false (ltb 80 (length bs)) (Err (Unreadable 80)) (read_fields reads (length bs) (placed 0 (fields bs))) within)
