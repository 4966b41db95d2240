-- Which parts make a rule, and which rule they make. Assumes nothing.
use Rattle.std.specs.Prelude.{◌≡◌, ℕ, zero, suc, ◌-◌, ◌%◌, ◌^◌, ◌<◌, ◌≤◌, Bool, true, false, ◌&&◌, Some, None, Option, Result, MatchResult, ◌==◌, nat_le, nat_lt, refl}
use Rattle.std.specs.Option.{ok_or}
use Rattle.std.proofs.lemmas.Bool.{and_parts, leb-true, ltb-true, eqb-true}
use Rattle.refusal.specs.declared.Refusal.{Refusal}
use Rattle.refusal.specs.declared.Refusal.TheVariants.{NoRule}
use Rattle.rule.specs.declared.Action.{Action}
use Rattle.rule.specs.declared.Action.TheVariants.{Allow, Block}
use Rattle.rule.specs.declared.Parts.{Parts}
use Rattle.rule.specs.declared.Rule.{Rule}

-- the number of an action in a row or a record
abbrev pub action_number : Action → ℕ
action_number Allow = 0
action_number Block = 1

-- the action with a number, which is 0 or 1
abbrev pub numbered : ℕ → Action
numbered zero = Allow
numbered (suc n) = Block

-- what reading an action's number gives
abbrev pub Numbered : ℕ → Result Action Refusal → Type 0
Numbered n r = MatchResult r (λ a. action_number a ≡ n) (λ e. (e ≡ NoRule 0) × (1 < n))

-- the parts of a rule
abbrev pub parts_of : Rule → Parts
parts_of r = record { address = r.address; prefix = r.prefix; action = action_number r.action; first = r.first; last = r.last }

-- each part fits its width, no address bit behind the prefix is set, the ports rise, and the action is 0 or 1
abbrev pub makes_rule : Parts → Bool
makes_rule p =
    nat_lt p.address (2 ^ 32) && (nat_le p.prefix 32 && (p.address % 2 ^ (32 - p.prefix) == 0 && (nat_le p.first p.last && (nat_lt p.last (2 ^ 16) && nat_le p.action 1))))

-- the same, as facts
pub record MakesRule (p : Parts) : Type 0 where
  pub wide : p.address < 2 ^ 32
  pub short : p.prefix ≤ 32
  pub clear : p.address % 2 ^ (32 - p.prefix) ≡ 0
  pub rising : p.first ≤ p.last
  pub port : p.last < 2 ^ 16
  pub known : p.action ≤ 1

-- the test tells the facts
pub facts : (p : Parts) → makes_rule p ≡ true → MakesRule p
facts p e =
    let wide = and_parts _ _ e in
    let short = and_parts _ _ wide.1 in
    let clear = and_parts _ _ short.1 in
    let rising = and_parts _ _ clear.1 in
    let port = and_parts _ _ rising.1 in
    record {
      wide = ltb-true _ _ wide.0;
      short = leb-true _ _ short.0;
      clear = eqb-true _ _ clear.0;
      rising = leb-true _ _ rising.0;
      port = ltb-true _ _ port.0;
      known = leb-true _ _ port.1;
    }

-- the rule with parts that make one
abbrev pub rule_with : (p : Parts) → MakesRule p → Rule
rule_with p e = record {
  address = p.address;
  prefix = p.prefix;
  action = numbered p.action;
  first = p.first;
  last = p.last;
  wide = e.wide;
  short = e.short;
  clear = e.clear;
  rising = e.rising;
  port = e.port;
}

-- the rule, where the test says that there is one
abbrev pub make_where : (p : Parts) (b : Bool) → makes_rule p ≡ b → Option Rule
make_where p true e = Some (rule_with p (facts p e))
make_where p false e = None

-- the rule with these parts, if they make one
unfoldable pub make : Parts → Option Rule
make p = make_where p (makes_rule p) refl

-- what making a rule of parts gives: the rule with these parts, or the refusal of parts that make none
pub record Made (p : Parts) (r : Result Rule Refusal) : Type 0 where
  pub value : r ≡ ok_or (make p) (NoRule 0)
  pub parts : MatchResult r (λ rule. parts_of rule ≡ p) (λ _. makes_rule p ≡ false)

-- the parts of the open rule
abbrev pub open_parts : Parts
open_parts = record { address = 0; prefix = 0; action = 0; first = 0; last = 65535 }

-- the open rule, 0.0.0.0/0 allow 0-65535, lets everything pass
unfoldable pub open_rule : Rule
open_rule = rule_with open_parts (facts open_parts refl)
