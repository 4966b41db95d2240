-- The text of a rule reads as that rule, and no other text does. Assumes nothing.
use Rattle.std.proofs.Common.{◌≡◌, ℕ, ◌≤◌, List, [], ◌∷◌, ◌++◌, length, Some, None, Ok, Err, Option, Result, sym, refl, ap, ◌∙◌, subst, arith}
use Rattle.std.specs.Option.{ok_or}
use Rattle.text.proofs.Options.{then_parts, option_map_some}
use Rattle.refusal.specs.declared.Refusal.{Refusal}
use Rattle.refusal.specs.declared.Refusal.TheVariants.{NoRule}
use Rattle.rule.specs.declared.Action.{Action}
use Rattle.rule.specs.declared.Parts.{Parts}
use Rattle.rule.specs.declared.Rule.{Rule}
use Rattle.rule.specs.Making.{action_number, numbered, parts_of, make}
use Rattle.rule.specs.Text.{network_text, action_text, ports_text, text}
use Rattle.rule.specs.Reading.{network_of, action_of, ports_of, fields, first_wrong, parts_in, parts_or_place, read_parts, parts_or_refusal, rule_or_refusal, read_rule}
use Rattle.rule.proofs.Rules.{numbered_number, make_parts, parts_make}
use Rattle.rule.proofs.Fields.{fields_one, fields_more, spaced, spaced_fields}
use Rattle.rule.proofs.FieldTexts.{network_of_text, text_of_network, action_of_text, text_of_action, ports_of_text, text_of_ports, no_space_network, no_space_action, no_space_ports}

-- the text of parts, and what it reads as

abbrev parts_text : Parts → List ℕ
parts_text p = network_text p.address p.prefix ++ (32 ∷ action_text (numbered p.action) ++ (32 ∷ ports_text p.first p.last))

parts_text_of : (r : Rule) → parts_text (parts_of r) ≡ text r
parts_text_of r = ap (λ a. network_text r.address r.prefix ++ (32 ∷ action_text a ++ (32 ∷ ports_text r.first r.last))) (numbered_number r.action)

three_readable : (end : ℕ) (f g h : List ℕ) (n : ℕ × ℕ) (a : Action) (p : ℕ × ℕ) → network_of f ≡ Some n → action_of g ≡ Some a → ports_of h ≡ Some p → parts_or_place end (f ∷ g ∷ h ∷ []) (first_wrong 0 0 (f ∷ g ∷ h ∷ [])) ≡ Ok (record { address = n.0; prefix = n.1; action = action_number a; first = p.0; last = p.1 })
three_readable end f g h n a p x y z = cc

-- fields that write parts are three, and the text of these parts
fields_text : (fs : List (List ℕ)) (p : Parts) → first_wrong 0 0 fs ≡ None → parts_in fs ≡ Some p → spaced fs ≡ parts_text p
fields_text [] p w e = absurd (grind arith)
fields_text (f ∷ []) p w e = absurd (grind arith)
fields_text (f ∷ g ∷ []) p w e = absurd (grind arith)
fields_text (f ∷ g ∷ h ∷ []) p w e =
    let n = then_parts (network_of f) _ p e in
    let a = then_parts (action_of g) _ p n.2 in
    let q = option_map_some _ (ports_of h) p a.2 in
    let x = text_of_network f n.0 n.1 in
    let y = text_of_action g a.0 a.1 ∙ ap action_text (sym (numbered_number a.0)) in
    let z = text_of_ports h q.0 q.1 in
    subst (λ (p : Parts). f ++ 32 ∷ (g ++ 32 ∷ h) ≡ parts_text p) q.2 (λ i. x i ++ 32 ∷ (y i ++ 32 ∷ z i))
fields_text (f ∷ g ∷ h ∷ k ∷ fs) p w e = absurd (grind arith)

ok_place : (end : ℕ) (fs : List (List ℕ)) (w : Option ℕ) (p : Parts) → parts_or_place end fs w ≡ Ok p → (w ≡ None) × (parts_in fs ≡ Some p)
ok_place end fs None p e = (refl, grind arith)
ok_place end fs (Some place) p e = absurd (grind arith)

ok_parts : (o : Result Parts ℕ) (r : Rule) → rule_or_refusal o ≡ Ok r → (p : Parts) × (o ≡ Ok p) × (make p ≡ Some r)
ok_parts (Ok p) r e = (p, refl, grind arith)
ok_parts (Err place) r e = absurd (grind arith)

-- the text of a rule reads as that rule
pub read_text : (r : Rule) → read_rule (text r) ≡ Ok r
read_text r =
    let f = network_text r.address r.prefix in
    let g = action_text r.action in
    let h = ports_text r.first r.last in
    let short : r.prefix ≤ 255 = omega (arith, r.short) in
    let first : r.first ≤ 65535 = omega (arith, r.rising, r.port) in
    let last : r.last ≤ 65535 = omega (arith, r.port) in
    let cut : fields (text r) ≡ f ∷ g ∷ h ∷ [] =
    fields_more f (g ++ 32 ∷ h) (no_space_network r.address r.prefix short)
    ∙ ap (λ l. f ∷ l) (fields_more g h (no_space_action r.action) ∙ ap (λ l. g ∷ l) (fields_one h (no_space_ports r.first r.last first last))) in
    let parts : read_parts (text r) ≡ Ok (parts_of r) =
    ap (λ fs. parts_or_place (length (text r)) fs (first_wrong 0 0 fs)) cut
    ∙ three_readable _ f g h _ _ _ (network_of_text r.address r.prefix r.wide short) (action_of_text r.action) (ports_of_text r.first r.last first last) in
    ap rule_or_refusal parts ∙ ap (λ o. ok_or o (NoRule 0)) (make_parts r (parts_of r) refl)

-- no other text does
pub text_read : (bs : List ℕ) (r : Rule) → read_rule bs ≡ Ok r → bs ≡ text r
text_read bs r e =
    let ok = ok_parts (read_parts bs) r e in
    let place = ok_place (length bs) (fields bs) (first_wrong 0 0 (fields bs)) ok.0 ok.1 in
    sym (spaced_fields bs) ∙ fields_text (fields bs) ok.0 place.0 place.1 ∙ ap parts_text (sym (parts_make ok.0 r ok.2)) ∙ parts_text_of r

-- a refusal of the parts is that of the rule
pub refused : (o : Result Parts ℕ) (e : Refusal) → parts_or_refusal o ≡ Err e → rule_or_refusal o ≡ Err e
refused o e h = grind arith

-- so what a text reads as tells whether it is the text of a rule
pub rule_texts : (bs : List ℕ) (o : Result Rule Refusal) → o ≡ read_rule bs → ((r : Rule) → o ≡ Ok r → bs ≡ text r) × ((r : Rule) → bs ≡ text r → o ≡ Ok r)
rule_texts bs o e = (λ r h. text_read bs r (sym e ∙ h), λ r h. e ∙ ap read_rule h ∙ read_text r)
