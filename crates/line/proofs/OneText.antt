-- A line that reads as a call is the text of that call. Assumes nothing.
use Rattle.std.proofs.Common.{◌≡◌, ℕ, ◌+◌, Bool, true, false, cond, eqb, ltb, List, [], ◌∷◌, ◌++◌, length, Some, None, Ok, Err, decimal, Option, Result, sym, refl, ap, ◌∙◌, subst, arith}
use Rattle.std.specs.Option.{option_map, ok_or}
use Rattle.std.proofs.lemmas.Bool.{eqb-true}
use Rattle.text.specs.Steps.{and_then}
use Rattle.text.proofs.Decimal.{decimal_number}
use Rattle.text.proofs.Options.{then_parts, option_map_some}
use Rattle.refusal.specs.declared.Refusal.TheVariants.{NoRule, Unreadable}
use Rattle.rule.specs.declared.Parts.{Parts}
use Rattle.rule.specs.declared.Rule.{Rule}
use Rattle.rule.specs.Making.{action_number, parts_of, make}
use Rattle.rule.specs.Reading.{network_of, action_of, ports_of, parts_in, fields}
use Rattle.rule.specs.Text.{text}
use Rattle.rule.proofs.Rules.{numbered_number, parts_make}
use Rattle.rule.proofs.Fields.{spaced, spaced_fields}
use Rattle.rule.proofs.FieldTexts.{text_of_network, text_of_action, text_of_ports}
use Rattle.protocol.specs.declared.Call.{Call}
use Rattle.protocol.specs.declared.Call.TheVariants.{Begin, Fetch, Read, Write, Drop, Forward, Commit, Abort, Learn, Receipt, Truncate}
use Rattle.protocol.specs.Texts.{call_text}
use Rattle.line.specs.Cutting.{placed}
use Rattle.line.specs.Reading.{Form, of_session, of_numbers, of_rule, of_change, of_stamp, form, form_of, Kind, kinds, numeral, readable, first_wrong, place, call_in, refuse_or, read_form, read_fields, call_of}

-- the bytes of fields
abbrev texts : List (ℕ × List ℕ) → List (List ℕ)
texts [] = []
texts (f ∷ fs) = f.1 ∷ texts fs

texts_placed : (at : ℕ) (fs : List (List ℕ)) → texts (placed at fs) ≡ fs
texts_placed at [] = refl
texts_placed at (f ∷ fs) = ap (λ l. f ∷ l) (texts_placed (at + length f + 1) fs)

number_text : (f : List ℕ) (n : ℕ) → numeral f ≡ Some n → f ≡ decimal n
number_text f n e = (decimal_number 4294967295 n f (omega arith) e).0

-- three fields whose parts make a rule are its text
rule_text : (f g h : List ℕ) (q : Parts) (r : Rule) → parts_in (f ∷ g ∷ h ∷ []) ≡ Some q → make q ≡ Some r → f ++ 32 ∷ (g ++ 32 ∷ h) ≡ text r
rule_text f g h q r e m =
    let n = then_parts (network_of f) _ q e in
    let a = then_parts (action_of g) _ q n.2 in
    let p = option_map_some _ (ports_of h) q a.2 in
    let all : parts_of r ≡ record { address = n.0.0; prefix = n.0.1; action = action_number a.0; first = p.0.0; last = p.0.1 } = parts_make q r m ∙ sym p.2 in
    grind (arith, all, numbered_number, text_of_network f n.0 n.1, text_of_action g a.0 a.1, text_of_ports h p.0 p.1)

ok_some : {X Y : Type 0} (o : Option X) (e : Y) (x : X) → ok_or o e ≡ Ok x → o ≡ Some x
ok_some None e x h = absurd (grind arith)
ok_some (Some y) e x h = cc

ok_none : {S : Type 0} (w : Option ℕ) (o : Option (Call S)) (r : ℕ) (c : Call S) → refuse_or w o r ≡ Ok c → (w ≡ None) × (o ≡ Some c)
ok_none None o r c e = (refl, ok_some o (NoRule r) c e)
ok_none (Some wrong) o r c e = absurd (grind arith)

right_by : (t : Bool) (w : Option ℕ) (at : ℕ) → cond t w (Some at) ≡ None → w ≡ None
right_by true w at e = e
right_by false w at e = absurd (grind arith)

module _ {S : Type 0} (reads : List ℕ → Option S) (stamp : S → List ℕ) (one : (bs : List ℕ) (x : S) → reads bs ≡ Some x → bs ≡ stamp x) (end : ℕ) where
  -- where no field is wrong, there are as many as there should be
  right_count : (ks : List Kind) (fs : List (ℕ × List ℕ)) → first_wrong reads end ks fs ≡ None → length fs ≡ length ks
  right_count [] [] e = refl
  right_count [] (f ∷ fs) e = absurd (grind arith)
  right_count (k ∷ ks) [] e = absurd (grind arith)
  right_count (k ∷ ks) (f ∷ fs) e = omega (arith, right_count ks fs (right_by (readable reads k f.1) (first_wrong reads end ks fs) f.0 e))

  read_ok : (φ : Form S) (fs : List (ℕ × List ℕ)) (c : Call S) → read_form reads end (Some φ) fs ≡ Ok c → (length fs ≡ length (kinds φ)) × (call_in reads φ fs ≡ Some c)
  read_ok φ fs c e =
      let ok = ok_none (first_wrong reads end (kinds φ) fs) (call_in reads φ fs) (place 2 fs) c e in
      (right_count (kinds φ) fs ok.0, ok.1)

  -- the letter and the fields are the text of what they read as
  abbrev Written : ℕ → Option (Form S) → Type 0
  Written b o = (fs : List (ℕ × List ℕ)) (c : Call S) → read_form reads end o fs ≡ Ok c → spaced ((b ∷ []) ∷ texts fs) ≡ call_text stamp c

  written_none : (b : ℕ) → Written b None
  written_none b fs c e = absurd (grind arith)

  -- a letter and one field, whatever it is read as
  written_one : {X : Type 0} (read : List ℕ → Option X) (text : X → List ℕ) → ((f : List ℕ) (x : X) → read f ≡ Some x → f ≡ text x) → (b : ℕ) (φ : Form S) (call : X → Call S) → length (kinds φ) ≡ 1 → ((f : ℕ × List ℕ) → call_in reads φ (f ∷ []) ≡ option_map call (read f.1)) → ((x : X) → b ∷ 32 ∷ text x ≡ call_text stamp (call x)) → Written b (Some φ)
  written_one read text says b φ call one made is fs c e = let ok = read_ok φ fs c e in by fs (ok.0 ∙ one) ok.1
    where
      by : (fs : List (ℕ × List ℕ)) → length fs ≡ 1 → call_in reads φ fs ≡ Some c → spaced ((b ∷ []) ∷ texts fs) ≡ call_text stamp c
      by [] n h = absurd (omega arith)
      by (f ∷ []) n h = let x = option_map_some call (read f.1) c (sym (made f) ∙ h) in ap (λ l. b ∷ 32 ∷ l) (says f.1 x.0 x.1) ∙ is x.0 ∙ ap (call_text stamp) x.2
      by (f ∷ g ∷ fs) n h = absurd (omega arith)

  -- a letter, a number and one field more
  written_two : {X : Type 0} (read : List ℕ → Option X) (text : X → List ℕ) → ((f : List ℕ) (x : X) → read f ≡ Some x → f ≡ text x) → (b : ℕ) (φ : Form S) (call : ℕ → X → Call S) → length (kinds φ) ≡ 2 → ((f g : ℕ × List ℕ) → call_in reads φ (f ∷ g ∷ []) ≡ and_then (numeral f.1) (λ s. option_map (call s) (read g.1))) → ((s : ℕ) (x : X) → b ∷ 32 ∷ decimal s ++ 32 ∷ text x ≡ call_text stamp (call s x)) → Written b (Some φ)
  written_two read text says b φ call two made is fs c e = let ok = read_ok φ fs c e in by fs (ok.0 ∙ two) ok.1
    where
      by : (fs : List (ℕ × List ℕ)) → length fs ≡ 2 → call_in reads φ fs ≡ Some c → spaced ((b ∷ []) ∷ texts fs) ≡ call_text stamp c
      by [] n h = absurd (omega arith)
      by (f ∷ []) n h = absurd (omega arith)
      by (f ∷ g ∷ []) n h =
          let s = then_parts (numeral f.1) _ c (sym (made f g) ∙ h) in
          let m = option_map_some (call s.0) (read g.1) c s.2 in
          let x = number_text f.1 s.0 s.1 in
          let y = says g.1 m.0 m.1 in
          (λ i. b ∷ 32 ∷ x i ++ 32 ∷ y i) ∙ is s.0 m.0 ∙ ap (call_text stamp) m.2
      by (f ∷ g ∷ h ∷ fs) n e = absurd (omega arith)

  written_session : (b : ℕ) (call : ℕ → Call S) → ((s : ℕ) → b ∷ 32 ∷ decimal s ≡ call_text stamp (call s)) → Written b (Some (of_session call))
  written_session b call is = written_one numeral decimal number_text b (of_session call) call refl (λ f. refl) is

  written_numbers : (b : ℕ) (call : ℕ → ℕ → Call S) → ((s n : ℕ) → b ∷ 32 ∷ decimal s ++ 32 ∷ decimal n ≡ call_text stamp (call s n)) → Written b (Some (of_numbers call))
  written_numbers b call is = written_two numeral decimal number_text b (of_numbers call) call refl (λ f g. refl) is

  written_rule : Written 119 (Some (of_rule Write))
  written_rule fs c e = let ok = read_ok (of_rule Write) fs c e in by fs ok.0 ok.1
    where
      by : (fs : List (ℕ × List ℕ)) → length fs ≡ 5 → call_in reads (of_rule Write) fs ≡ Some c → spaced ((119 ∷ []) ∷ texts fs) ≡ call_text stamp c
      by [] n h = absurd (omega arith)
      by (f ∷ []) n h = absurd (omega arith)
      by (f ∷ g ∷ []) n h = absurd (omega arith)
      by (f ∷ g ∷ i ∷ []) n h = absurd (omega arith)
      by (f ∷ g ∷ i ∷ j ∷ []) n h = absurd (omega arith)
      by (f ∷ g ∷ i ∷ j ∷ k ∷ []) n h =
          let s = then_parts (numeral f.1) _ c h in
          let m = then_parts (numeral g.1) _ c s.2 in
          let q = then_parts (parts_in (i.1 ∷ j.1 ∷ k.1 ∷ [])) _ c m.2 in
          let r = option_map_some (Write s.0 m.0) (make q.0) c q.2 in
          let x = number_text f.1 s.0 s.1 in
          let y = number_text g.1 m.0 m.1 in
          let z = rule_text i.1 j.1 k.1 q.0 r.0 q.1 r.1 in
          (λ t. 119 ∷ 32 ∷ x t ++ 32 ∷ (y t ++ 32 ∷ z t)) ∙ ap (call_text stamp) r.2
      by (f ∷ g ∷ i ∷ j ∷ k ∷ l ∷ fs) n h = absurd (omega arith)

  pick_by : (b k : ℕ) (t : Bool) → eqb b k ≡ t → (x y : Option (Form S)) → Written k x → Written b y → Written b (cond t x y)
  pick_by b k true e x y p q = subst (λ n. Written n x) (sym (eqb-true b k e)) p
  pick_by b k false e x y p q = q

  pick : (b k : ℕ) (x y : Option (Form S)) → Written k x → Written b y → Written b (cond (eqb b k) x y)
  pick b k x y p q = pick_by b k (eqb b k) refl x y p q

  written : (b : ℕ) → Written b (form b)
  written b =
      pick b 98 _ _ (written_session 98 Begin (λ s. refl))
      (pick b 102 _ _ (written_numbers 102 Fetch (λ s n. refl))
      (pick b 114 _ _ (written_numbers 114 Read (λ s n. refl))
      (pick b 119 _ _ written_rule
      (pick b 100 _ _ (written_numbers 100 Drop (λ s n. refl))
      (pick b 112 _ _ (written_two reads stamp one 112 (of_change Forward) Forward refl (λ f g. refl) (λ s x. refl))
      (pick b 99 _ _ (written_session 99 Commit (λ s. refl))
      (pick b 97 _ _ (written_session 97 Abort (λ s. refl))
      (pick b 108 _ _ (written_session 108 Learn (λ s. refl))
      (pick b 107 _ _ (written_numbers 107 Receipt (λ s n. refl))
      (pick b 116 _ _ (written_one reads stamp one 116 (of_stamp Truncate) Truncate refl (λ f. refl) (λ x. refl)) (written_none b)))))))))))

  written_first : (f : List ℕ) (fs : List (ℕ × List ℕ)) (c : Call S) → read_form reads end (form_of f) fs ≡ Ok c → spaced (f ∷ texts fs) ≡ call_text stamp c
  written_first [] fs c e = absurd (grind arith)
  written_first (b ∷ []) fs c e = written b fs c e
  written_first (b ∷ d ∷ f) fs c e = absurd (grind arith)

  written_fields : (fs : List (ℕ × List ℕ)) (c : Call S) → read_fields reads end fs ≡ Ok c → spaced (texts fs) ≡ call_text stamp c
  written_fields [] c e = absurd (grind arith)
  written_fields (f ∷ fs) c e = written_first f.1 fs c e

short_ok : {X Y : Type 0} (t : Bool) (e : Y) (r : Result X Y) (x : X) → cond t (Err e) r ≡ Ok x → r ≡ Ok x
short_ok true e r x h = absurd (grind arith)
short_ok false e r x h = h

-- a line that reads as a call is its text
pub one_text : {S : Type 0} (reads : List ℕ → Option S) (stamp : S → List ℕ) → ((bs : List ℕ) (x : S) → reads bs ≡ Some x → bs ≡ stamp x) → (bs : List ℕ) (c : Call S) → call_of reads bs ≡ Ok c → bs ≡ call_text stamp c
one_text reads stamp one bs c e =
    sym (spaced_fields bs) ∙ ap spaced (sym (texts_placed 0 (fields bs)))
    ∙ written_fields reads stamp one (length bs) (placed 0 (fields bs)) c (short_ok (ltb 80 (length bs)) (Unreadable 80) _ c e)
