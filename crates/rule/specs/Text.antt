-- The text of a rule: `address/prefix action first-last`. Assumes nothing.
use Rattle.std.specs.Prelude.{ℕ, ◌/◌, ◌%◌, ◌^◌, List, ◌∷◌, ◌++◌, codes, decimal}
use Rattle.rule.specs.declared.Action.{Action}
use Rattle.rule.specs.declared.Action.TheVariants.{Allow, Block}
use Rattle.rule.specs.declared.Rule.{Rule}

-- four octets with dots between them, the high octet first
abbrev pub address_text : ℕ → List ℕ
address_text a =
    decimal (a / 256 ^ 3 % 256) ++ (46 ∷ decimal (a / 256 ^ 2 % 256) ++ (46 ∷ decimal (a / 256 % 256) ++ (46 ∷ decimal (a % 256))))

-- an address, a slash and a prefix length
abbrev pub network_text : ℕ → ℕ → List ℕ
network_text a p = address_text a ++ (47 ∷ decimal p)

abbrev pub action_text : Action → List ℕ
action_text Allow = codes "allow"
action_text Block = codes "block"

-- two ports with a hyphen between them
abbrev pub ports_text : ℕ → ℕ → List ℕ
ports_text x y = decimal x ++ (45 ∷ decimal y)

-- the three fields with single spaces between them
abbrev pub text : Rule → List ℕ
text r = network_text r.address r.prefix ++ (32 ∷ action_text r.action ++ (32 ∷ ports_text r.first r.last))
