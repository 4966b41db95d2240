-- What a text reads as: a rule, or the refusal that it meets. The bytes are 32 ' ', 45 '-', 46 '.' and 47 '/'. Assumes nothing.
use Rattle.std.specs.Prelude.{ℕ, zero, suc, ◌+◌, ◌*◌, ◌^◌, min, Bool, false, cond, List, [], ◌∷◌, length, is_some, Some, None, Ok, Err, codes, Option, Result, ◌==◌}
use Rattle.std.specs.Option.{option_map, ok_or}
use Rattle.std.specs.Str.{bytes_eq}
use Rattle.text.specs.Cutting.{split}
use Rattle.text.specs.Numbers.{number_of}
use Rattle.text.specs.Octets.{octet_of}
use Rattle.text.specs.Steps.{and_then}
use Rattle.refusal.specs.declared.Refusal.{Refusal}
use Rattle.refusal.specs.declared.Refusal.TheVariants.{NoRule, Unreadable}
use Rattle.rule.specs.declared.Action.{Action}
use Rattle.rule.specs.declared.Action.TheVariants.{Allow, Block}
use Rattle.rule.specs.declared.Parts.{Parts}
use Rattle.rule.specs.declared.Rule.{Rule}
use Rattle.rule.specs.Making.{action_number, make}

-- an octet, and what stands behind its dot
abbrev pub dotted : List ℕ → Option (ℕ × List ℕ)
dotted bs = and_then (split 46 bs) (λ p. option_map (λ n. (n, p.1)) (octet_of p.0))

-- four octets with dots between them
abbrev pub address_of : List ℕ → Option ℕ
address_of bs =
    and_then (dotted bs) (λ a. and_then (dotted a.1) (λ b. and_then (dotted b.1) (λ c.
    option_map (λ d. a.0 * 256 ^ 3 + b.0 * 256 ^ 2 + c.0 * 256 + d) (octet_of c.1))))

-- an address and a prefix length
abbrev pub network_of : List ℕ → Option (ℕ × ℕ)
network_of bs = and_then (split 47 bs) (λ p. and_then (address_of p.0) (λ a. option_map (λ n. (a, n)) (number_of 255 p.1)))

abbrev pub action_of : List ℕ → Option Action
action_of bs = cond (bytes_eq bs (codes "allow")) (Some Allow) (cond (bytes_eq bs (codes "block")) (Some Block) None)

-- two ports
abbrev pub ports_of : List ℕ → Option (ℕ × ℕ)
ports_of bs = and_then (split 45 bs) (λ p. and_then (number_of 65535 p.0) (λ x. option_map (λ y. (x, y)) (number_of 65535 p.1)))

-- the byte before the first field's bytes
abbrev pub onto_first : ℕ → List (List ℕ) → List (List ℕ)
onto_first b [] = (b ∷ []) ∷ []
onto_first b (f ∷ fs) = (b ∷ f) ∷ fs

-- the text cut at every space
abbrev pub fields : List ℕ → List (List ℕ)
fields [] = [] ∷ []
fields (b ∷ bs) = cond (b == 32) ([] ∷ fields bs) (onto_first b (fields bs))

-- whether a field reads as the n-th field of a rule, from 0; a fourth one is surplus
abbrev pub readable : ℕ → List ℕ → Bool
readable zero f = is_some (network_of f)
readable (suc zero) f = is_some (action_of f)
readable (suc (suc zero)) f = is_some (ports_of f)
readable (suc (suc (suc n))) f = false

-- the place of the first field that is unreadable or surplus; the first of these is the n-th, and begins at this place
abbrev pub first_wrong : ℕ → ℕ → List (List ℕ) → Option ℕ
first_wrong n place [] = None
first_wrong n place (f ∷ fs) = cond (readable n f) (first_wrong (suc n) (place + length f + 1) fs) (Some place)

-- the parts that the first three fields write
abbrev pub parts_in : List (List ℕ) → Option Parts
parts_in [] = None
parts_in (f ∷ []) = None
parts_in (f ∷ g ∷ []) = None
parts_in (f ∷ g ∷ h ∷ fs) =
    and_then (network_of f) (λ n. and_then (action_of g) (λ a.
    option_map (λ p. record { address = n.0; prefix = n.1; action = action_number a; first = p.0; last = p.1 }) (ports_of h)))

-- the place of the first wrong field, else the end of the text where a field is missing, else the parts
abbrev pub parts_or_place : ℕ → List (List ℕ) → Option ℕ → Result Parts ℕ
parts_or_place end fs (Some place) = Err place
parts_or_place end fs None = ok_or (parts_in fs) end

-- the parts that the text writes, or the place where it is wrong
abbrev pub read_parts : List ℕ → Result Parts ℕ
read_parts bs = parts_or_place (length bs) (fields bs) (first_wrong 0 0 (fields bs))

-- a place that does not fit 32 bits is told as the greatest number that does
abbrev pub unreadable_at : ℕ → Refusal
unreadable_at place = Unreadable (min place 4294967295)

-- the parts, or the refusal that tells the place
abbrev pub parts_or_refusal : Result Parts ℕ → Result Parts Refusal
parts_or_refusal (Ok parts) = Ok parts
parts_or_refusal (Err place) = Err (unreadable_at place)

-- a text whose fields read, and whose parts make no rule, is refused at 0
abbrev pub rule_or_refusal : Result Parts ℕ → Result Rule Refusal
rule_or_refusal (Ok parts) = ok_or (make parts) (NoRule 0)
rule_or_refusal (Err place) = Err (unreadable_at place)

-- the rule that the text writes, or the refusal
abbrev pub read_rule : List ℕ → Result Rule Refusal
read_rule bs = rule_or_refusal (read_parts bs)
