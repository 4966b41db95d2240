-- A rule is its parts: two rules with the same parts are equal, and making a rule from parts is the inverse of taking its parts. Assumes nothing.
use Rattle.std.proofs.Common.{◌≡◌, ℕ, zero, suc, ◌-◌, ◌%◌, ◌^◌, ◌<◌, ◌≤◌, Bool, true, false, Some, None, Ok, Err, sym, refl, ap, ◌∙◌, arith}
use mathlib.Core.HLevel.{is_prop→PathP}
use native.Mathlib.Bridge.{le_prop}
use native.Mathlib.Nat.{ℕ_set}
use Rattle.std.proofs.lemmas.Bool.{and_from, le-leb, lt-ltb, eq-eqb}
use Rattle.rule.specs.declared.Action.{Action}
use Rattle.rule.specs.declared.Action.TheVariants.{Allow, Block}
use Rattle.rule.specs.declared.Parts.{Parts}
use Rattle.rule.specs.declared.Rule.{Rule}
use Rattle.std.specs.Option.{ok_or}
use Rattle.refusal.specs.declared.Refusal.TheVariants.{NoRule}
use Rattle.rule.specs.Making.{action_number, numbered, parts_of, makes_rule, MakesRule, facts, rule_with, make_where, make, Made, open_parts, open_rule}

pub numbered_number : (a : Action) → numbered (action_number a) ≡ a
numbered_number Allow = refl
numbered_number Block = refl

pub number_numbered : (n : ℕ) → n ≤ 1 → action_number (numbered n) ≡ n
number_numbered zero h = refl
number_numbered (suc zero) h = refl
number_numbered (suc (suc n)) h = absurd (omega arith)

number_small : (a : Action) → action_number a ≤ 1
number_small a = grind arith

same_parts : (a b : Rule) → a.address ≡ b.address → a.prefix ≡ b.prefix → a.action ≡ b.action → a.first ≡ b.first → a.last ≡ b.last → a ≡ b
same_parts a b ea ep ec ef el = λ i. record {
  address = ea i;
  prefix = ep i;
  action = ec i;
  first = ef i;
  last = el i;
  wide = is_prop→PathP (λ i. ea i < 2 ^ 32) (λ i. le_prop) a.wide b.wide i;
  short = is_prop→PathP (λ i. ep i ≤ 32) (λ i. le_prop) a.short b.short i;
  clear = is_prop→PathP (λ i. ea i % 2 ^ (32 - ep i) ≡ 0) (λ i. ℕ_set _ _) a.clear b.clear i;
  rising = is_prop→PathP (λ i. ef i ≤ el i) (λ i. le_prop) a.rising b.rising i;
  port = is_prop→PathP (λ i. el i < 2 ^ 16) (λ i. le_prop) a.port b.port i;
}

-- a rule is its parts
pub same_rule : (a b : Rule) → parts_of a ≡ parts_of b → a ≡ b
same_rule a b e =
    same_parts a b (ap (λ (p : Parts). p.address) e) (ap (λ (p : Parts). p.prefix) e)
    (sym (numbered_number a.action) ∙ ap (λ (p : Parts). numbered p.action) e ∙ numbered_number b.action)
    (ap (λ (p : Parts). p.first) e) (ap (λ (p : Parts). p.last) e)

pub rule_makes : (r : Rule) → makes_rule (parts_of r) ≡ true
rule_makes r =
    and_from _ _ (lt-ltb _ _ r.wide)
    (and_from _ _ (le-leb _ _ r.short)
    (and_from _ _ (eq-eqb _ _ r.clear)
    (and_from _ _ (le-leb _ _ r.rising) (and_from _ _ (lt-ltb _ _ r.port) (le-leb _ _ (number_small r.action))))))

pub with_parts : (p : Parts) (e : MakesRule p) → parts_of (rule_with p e) ≡ p
with_parts p e = λ i. record { address = p.address; prefix = p.prefix; action = number_numbered p.action e.known i; first = p.first; last = p.last }

made_where : (p : Parts) (b : Bool) (e : makes_rule p ≡ b) (r : Rule) → parts_of r ≡ p → make_where p b e ≡ Some r
made_where p true e r same = ap Some (same_rule _ r (with_parts p (facts p e) ∙ sym same))
made_where p false e r same = let z : ◌≡◌ {A = Bool} true false = sym (rule_makes r) ∙ ap makes_rule same ∙ e in absurd (grind arith)

-- the parts of a rule make that rule
pub make_parts : (r : Rule) (p : Parts) → parts_of r ≡ p → make p ≡ Some r
unfolding make
make_parts r p same = made_where p (makes_rule p) refl r same

not_where : (p : Parts) (b : Bool) (e : makes_rule p ≡ b) → b ≡ false → make_where p b e ≡ None
not_where p true e z = absurd (grind arith)
not_where p false e z = refl

-- other parts make none
pub make_none : (p : Parts) → makes_rule p ≡ false → make p ≡ None
unfolding make
make_none p e = not_where p (makes_rule p) refl e

-- what making a rule gives, by the parts of the rule
pub made_rule : (p : Parts) (r : Rule) → parts_of r ≡ p → Made p (Ok r)
made_rule p r same = record { value = sym (ap (λ o. ok_or o (NoRule 0)) (make_parts r p same)); parts = same }

pub made_none : (p : Parts) → makes_rule p ≡ false → Made p (Err (NoRule 0))
made_none p e = record { value = sym (ap (λ o. ok_or o (NoRule 0)) (make_none p e)); parts = e }

parts_where : (p : Parts) (b : Bool) (e : makes_rule p ≡ b) (r : Rule) → make_where p b e ≡ Some r → parts_of r ≡ p
parts_where p true e r h = let same : rule_with p (facts p e) ≡ r = cc in ap parts_of (sym same) ∙ with_parts p (facts p e)
parts_where p false e r h = absurd (grind arith)

-- what was made has the parts that it was made from
pub parts_make : (p : Parts) (r : Rule) → make p ≡ Some r → parts_of r ≡ p
unfolding make
parts_make p r h = parts_where p (makes_rule p) refl r h

pub parts_open : parts_of open_rule ≡ open_parts
unfolding open_rule
parts_open = refl
