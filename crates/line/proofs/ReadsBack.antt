-- The text of a call reads as that call. Assumes nothing.
use Rattle.std.proofs.Common.{◌≡◌, ℕ, ◌+◌, ◌/◌, ◌%◌, ◌^◌, ◌<◌, ◌≤◌, false, cond, ltb, List, [], ◌∷◌, ◌++◌, length, is_some, Some, None, Ok, Err, decimal, Option, refl, ap, ◌∙◌, arith, length-append}
use Rattle.std.specs.Option.{option_map, ok_or}
use Rattle.std.proofs.lemmas.Fmt.{length-decimal-le}
use Rattle.std.proofs.lemmas.Bool.{cond-false}
use Rattle.std.proofs.lemmas.Bool.Decides.{nat_tests}
use Rattle.text.specs.Steps.{and_then}
use Rattle.text.proofs.Cuts.{Lacks}
use Rattle.text.proofs.Decimal.{number_decimal, lacks_decimal}
use Rattle.refusal.specs.declared.Refusal.TheVariants.{NoRule, Unreadable}
use Rattle.rule.specs.declared.Action.{Action}
use Rattle.rule.specs.declared.Action.TheVariants.{Allow, Block}
use Rattle.rule.specs.declared.Rule.{Rule}
use Rattle.rule.specs.Making.{action_number, parts_of, make}
use Rattle.rule.specs.Reading.{network_of, action_of, ports_of, fields}
use Rattle.rule.specs.Text.{address_text, network_text, action_text, ports_text, text}
use Rattle.rule.proofs.Rules.{make_parts}
use Rattle.rule.proofs.Fields.{fields_one, fields_more}
use Rattle.rule.proofs.FieldTexts.{network_of_text, action_of_text, ports_of_text, no_space_network, no_space_action, no_space_ports}
use Rattle.protocol.specs.declared.Call.{Call}
use Rattle.protocol.specs.declared.Call.TheVariants.{Begin, Fetch, Read, Write, Drop, Forward, Commit, Abort, Learn, Receipt, Truncate}
use Rattle.protocol.specs.Texts.{call_text, Fits}
use Rattle.line.specs.Cutting.{placed}
use Rattle.line.specs.Reading.{Form, of_session, of_numbers, of_rule, of_change, of_stamp, form, numeral, refuse_or, read_form, read_fields, call_of}

number_back : (n : ℕ) → n < 2 ^ 32 → numeral (decimal n) ≡ Some n
number_back n h = number_decimal 4294967295 n (omega arith) (omega arith)

no_space_number : (n : ℕ) → n < 2 ^ 32 → Lacks 32 (decimal n)
no_space_number n h = lacks_decimal 32 n (omega arith) (λ d. omega arith)

short_number : (n : ℕ) → n < 2 ^ 32 → length (decimal n) ≤ 10
short_number n h = length-decimal-le 10 n (omega arith) (omega arith) (omega arith)

-- ---- a rule's text is short

short_octet : (n : ℕ) → length (decimal (n % 256)) ≤ 3
short_octet n = length-decimal-le 3 (n % 256) (omega arith) (omega arith) (omega arith)

short_port : (n : ℕ) → n ≤ 65535 → length (decimal n) ≤ 5
short_port n h = length-decimal-le 5 n (omega arith) (omega arith) (omega arith)

short_between : (a b : List ℕ) (c m n : ℕ) → length a ≤ m → length b ≤ n → length (a ++ c ∷ b) ≤ m + 1 + n
short_between a b c m n p q = omega (arith, length-append a (c ∷ b))

short_address : (n : ℕ) → length (address_text n) ≤ 15
short_address n =
    short_between _ _ 46 3 11 (short_octet (n / 256 ^ 3)) (short_between _ _ 46 3 7 (short_octet (n / 256 ^ 2)) (short_between _ _ 46 3 3 (short_octet (n / 256)) (short_octet n)))

short_action : (a : Action) → length (action_text a) ≤ 5
short_action Allow = omega arith
short_action Block = omega arith

short_rule : (r : Rule) → length (text r) ≤ 37
short_rule r =
    let prefix = length-decimal-le 3 r.prefix (omega arith) (omega (arith, r.short)) (omega (arith, r.short)) in
    short_between _ _ 32 19 17 (short_between _ _ 47 15 3 (short_address r.address) prefix)
    (short_between _ _ 32 5 11 (short_action r.action) (short_between _ _ 45 5 5 (short_port r.first (omega (arith, r.rising, r.port))) (short_port r.last (omega (arith, r.port)))))

-- ---- what the text is cut into

fields_two : (f g : List ℕ) → Lacks 32 f → Lacks 32 g → fields (f ++ 32 ∷ g) ≡ f ∷ g ∷ []
fields_two f g p q = fields_more f g p ∙ ap (λ l. f ∷ l) (fields_one g q)

fields_three : (f g h : List ℕ) → Lacks 32 f → Lacks 32 g → Lacks 32 h → fields (f ++ 32 ∷ (g ++ 32 ∷ h)) ≡ f ∷ g ∷ h ∷ []
fields_three f g h p q r = fields_more f (g ++ 32 ∷ h) p ∙ ap (λ l. f ∷ l) (fields_two g h q r)

module _ {S : Type 0} (reads : List ℕ → Option S) (stamp : S → List ℕ) (back : (x : S) → reads (stamp x) ≡ Some x) (no_space : (x : S) → Lacks 32 (stamp x)) (short : (x : S) → length (stamp x) ≤ 40) where
  cut_line : (bs : List ℕ) (fs : List (List ℕ)) (c : Call S) → length bs ≤ 80 → fields bs ≡ fs → ((end : ℕ) → read_fields reads end (placed 0 fs) ≡ Ok c) → call_of reads bs ≡ Ok c
  cut_line bs fs c h e r =
      let within : ltb 80 (length bs) ≡ false = grind (arith, nat_tests) in
      cond-false (ltb 80 (length bs)) (Err (Unreadable 80)) (read_fields reads (length bs) (placed 0 (fields bs))) within
      ∙ ap (λ l. read_fields reads (length bs) (placed 0 l)) e ∙ r (length bs)

  -- a letter and one field
  one_back : {X : Type 0} (read : List ℕ → Option X) (b : ℕ) (φ : Form S) (call : X → Call S) (x : X) (f : List ℕ) → read f ≡ Some x → length f ≤ 40 → Lacks 32 f → Lacks 32 (b ∷ []) → form b ≡ Some φ → ((end : ℕ) → read_form reads end (Some φ) ((2, f) ∷ []) ≡ refuse_or (cond (is_some (read f)) None (Some 2)) (option_map call (read f)) 0) → call_of reads (b ∷ 32 ∷ f) ≡ Ok (call x)
  one_back read b φ call x f y h q p e r =
      let small : length (b ∷ 32 ∷ f) ≤ 80 = omega (arith, h) in
      cut_line (b ∷ 32 ∷ f) _ _ small (fields_two (b ∷ []) f p q)
      (λ end. ap (λ φ. read_form reads end φ ((2, f) ∷ [])) e ∙ r end ∙ ap (λ o. refuse_or (cond (is_some o) None (Some 2)) (option_map call o) 0) y)

  session_back : (b : ℕ) (call : ℕ → Call S) (s : ℕ) → s < 2 ^ 32 → Lacks 32 (b ∷ []) → form b ≡ Some (of_session call) → call_of reads (b ∷ 32 ∷ decimal s) ≡ Ok (call s)
  session_back b call s h p e =
      one_back numeral b (of_session call) call s (decimal s) (number_back s h) (omega (arith, short_number s h)) (no_space_number s h) p e (λ end. refl)

  -- a letter, a number and one field more
  two_back : {X : Type 0} (read : List ℕ → Option X) (b : ℕ) (φ : Form S) (call : ℕ → X → Call S) (s : ℕ) (x : X) (g : List ℕ) → s < 2 ^ 32 → read g ≡ Some x → length g ≤ 40 → Lacks 32 g → Lacks 32 (b ∷ []) → form b ≡ Some φ → ((end at : ℕ) (f : List ℕ) → read_form reads end (Some φ) ((2, f) ∷ (at, g) ∷ []) ≡ refuse_or (cond (is_some (numeral f)) (cond (is_some (read g)) None (Some at)) (Some 2)) (and_then (numeral f) (λ s. option_map (call s) (read g))) 0) → call_of reads (b ∷ 32 ∷ decimal s ++ 32 ∷ g) ≡ Ok (call s x)
  two_back read b φ call s x g h y k q p e r =
      let z = number_back s h in
      let small : length (b ∷ 32 ∷ decimal s ++ 32 ∷ g) ≤ 80 = omega (arith, short_between (decimal s) g 32 10 40 (short_number s h) k) in
      let at = 2 + length (decimal s) + 1 in
      cut_line (b ∷ 32 ∷ decimal s ++ 32 ∷ g) _ _ small (fields_three (b ∷ []) (decimal s) g p (no_space_number s h) q)
      (λ end. ap (λ φ. read_form reads end φ ((2, decimal s) ∷ (at, g) ∷ [])) e ∙ r end at (decimal s)
      ∙ (λ i. refuse_or (cond (is_some (z i)) (cond (is_some (y i)) None (Some at)) (Some 2)) (and_then (z i) (λ s. option_map (call s) (y i))) 0))

  numbers_back : (b : ℕ) (call : ℕ → ℕ → Call S) (s n : ℕ) → s < 2 ^ 32 → n < 2 ^ 32 → Lacks 32 (b ∷ []) → form b ≡ Some (of_numbers call) → call_of reads (b ∷ 32 ∷ decimal s ++ 32 ∷ decimal n) ≡ Ok (call s n)
  numbers_back b call s n h k p e =
      two_back numeral b (of_numbers call) call s n (decimal n) h (number_back n k) (omega (arith, short_number n k)) (no_space_number n k) p e (λ end at f. refl)

  -- the six fields of a write
  read_six : (end at bt ct dt et : ℕ) (f g h i j : List ℕ) (s n : ℕ) (r : Rule) → numeral f ≡ Some s → numeral g ≡ Some n → network_of h ≡ Some (r.address, r.prefix) → action_of i ≡ Some r.action → ports_of j ≡ Some (r.first, r.last) → make (parts_of r) ≡ Some r → read_form reads end (Some (of_rule Write)) ((at, f) ∷ (bt, g) ∷ (ct, h) ∷ (dt, i) ∷ (et, j) ∷ []) ≡ Ok (Write s n r)
  read_six end at bt ct dt et f g h i j s n r p q t u v w =
      (λ k. refuse_or (cond (is_some (p k)) (cond (is_some (q k)) (cond (is_some (t k)) (cond (is_some (u k)) (cond (is_some (v k)) None (Some et)) (Some dt)) (Some ct)) (Some bt)) (Some at))
      (and_then (p k) (λ s. and_then (q k) (λ n. and_then (and_then (t k) (λ x. and_then (u k) (λ a. option_map (λ y. record { address = x.0; prefix = x.1; action = action_number a; first = y.0; last = y.1 }) (v k)))) (λ m. option_map (Write s n) (make m))))) ct)
      ∙ ap (λ o. ok_or (option_map (Write s n) o) (NoRule ct)) w

  write_back : (s n : ℕ) (r : Rule) → s < 2 ^ 32 → n < 2 ^ 32 → call_of reads (119 ∷ 32 ∷ decimal s ++ 32 ∷ (decimal n ++ 32 ∷ text r)) ≡ Ok (Write s n r)
  write_back s n r h k =
      let f = network_text r.address r.prefix in
      let g = action_text r.action in
      let i = ports_text r.first r.last in
      let prefix : r.prefix ≤ 255 = omega (arith, r.short) in
      let first : r.first ≤ 65535 = omega (arith, r.rising, r.port) in
      let last : r.last ≤ 65535 = omega (arith, r.port) in
      let behind = short_between (decimal s) (decimal n ++ 32 ∷ text r) 32 10 48 (short_number s h) (short_between (decimal n) (text r) 32 10 37 (short_number n k) (short_rule r)) in
      let small : length (119 ∷ 32 ∷ decimal s ++ 32 ∷ (decimal n ++ 32 ∷ text r)) ≤ 80 = omega (arith, behind) in
      let cut : fields (119 ∷ 32 ∷ decimal s ++ 32 ∷ (decimal n ++ 32 ∷ text r)) ≡ (119 ∷ []) ∷ decimal s ∷ decimal n ∷ f ∷ g ∷ i ∷ [] =
      fields_more (119 ∷ []) (decimal s ++ 32 ∷ (decimal n ++ 32 ∷ text r)) (λ d. omega arith, tt)
      ∙ ap (λ l. (119 ∷ []) ∷ l) (fields_more (decimal s) (decimal n ++ 32 ∷ text r) (no_space_number s h)
      ∙ ap (λ l. decimal s ∷ l) (fields_more (decimal n) (text r) (no_space_number n k)
      ∙ ap (λ l. decimal n ∷ l) (fields_three f g i (no_space_network r.address r.prefix prefix) (no_space_action r.action) (no_space_ports r.first r.last first last)))) in
      cut_line (119 ∷ 32 ∷ decimal s ++ 32 ∷ (decimal n ++ 32 ∷ text r)) _ _ small cut
      (λ end. read_six end _ _ _ _ _ (decimal s) (decimal n) f g i s n r (number_back s h) (number_back n k)
      (network_of_text r.address r.prefix r.wide prefix) (action_of_text r.action) (ports_of_text r.first r.last first last) (make_parts r (parts_of r) refl))

  -- the text of a call reads as that call
  pub reads_back : (c : Call S) → Fits c → call_of reads (call_text stamp c) ≡ Ok c
  reads_back (Begin s) h = session_back 98 Begin s h (λ d. omega arith, tt) refl
  reads_back (Fetch s n) h = numbers_back 102 Fetch s n h.0 h.1 (λ d. omega arith, tt) refl
  reads_back (Read s n) h = numbers_back 114 Read s n h.0 h.1 (λ d. omega arith, tt) refl
  reads_back (Write s n r) h = write_back s n r h.0 h.1
  reads_back (Drop s n) h = numbers_back 100 Drop s n h.0 h.1 (λ d. omega arith, tt) refl
  reads_back (Forward s x) h =
      two_back reads 112 (of_change Forward) Forward s x (stamp x) h (back x) (short x) (no_space x) (λ d. omega arith, tt) refl (λ end at f. refl)
  reads_back (Commit s) h = session_back 99 Commit s h (λ d. omega arith, tt) refl
  reads_back (Abort s) h = session_back 97 Abort s h (λ d. omega arith, tt) refl
  reads_back (Learn s) h = session_back 108 Learn s h (λ d. omega arith, tt) refl
  reads_back (Receipt s n) h = numbers_back 107 Receipt s n h.0 h.1 (λ d. omega arith, tt) refl
  reads_back (Truncate x) h =
      one_back reads 116 (of_stamp Truncate) Truncate x (stamp x) (back x) (short x) (no_space x) (λ d. omega arith, tt) refl (λ end. refl)
