-- The text of each field reads as what it was written from, no other text does, and it holds no space. Assumes nothing.
use Rattle.std.proofs.Common.{◌≡◌, ℕ, ◌^◌, ◌<◌, ◌≤◌, Bool, true, cond, List, ◌∷◌, ◌++◌, Some, None, codes, decimal, refl, ◌∙◌, subst, arith}
use Rattle.std.proofs.lemmas.Slice.Eq.{bytes_eq-Decides}
use Rattle.text.specs.Cutting.{split}
use Rattle.text.specs.Numbers.{number_of}
use Rattle.text.proofs.Cuts.{Lacks, lacks_append, split_at, split_cuts}
use Rattle.text.proofs.Decimal.{number_decimal, decimal_number, lacks_decimal, lacks_between}
use Rattle.text.proofs.Options.{then_parts, option_map_some}
use Rattle.rule.specs.declared.Action.{Action}
use Rattle.rule.specs.declared.Action.TheVariants.{Allow, Block}
use Rattle.rule.specs.Text.{address_text, network_text, action_text, ports_text}
use Rattle.rule.specs.Reading.{address_of, network_of, action_of, ports_of}
use Rattle.rule.proofs.Addresses.{address_of_text, text_of_address, lacks_address}

pub network_of_text : (a p : ℕ) → a < 2 ^ 32 → p ≤ 255 → network_of (network_text a p) ≡ Some (a, p)
network_of_text a p ha hp =
    rw (split_at 47 (address_text a) (decimal p) (lacks_address 47 a (λ d. omega arith) (λ d. omega arith)), address_of_text a ha, number_decimal 255 p hp (omega arith))

pub text_of_network : (bs : List ℕ) (n : ℕ × ℕ) → network_of bs ≡ Some n → bs ≡ network_text n.0 n.1
text_of_network bs n e =
    let s = then_parts (split 47 bs) _ n e in
    let cut = split_cuts 47 bs s.0.0 s.0.1 s.1 in
    let a = then_parts (address_of s.0.0) _ n s.2 in
    let p = option_map_some _ (number_of 255 s.0.1) n a.2 in
    let x = text_of_address s.0.0 a.0 a.1 in
    let y = (decimal_number 255 p.0 s.0.1 (omega arith) p.1).0 in
    subst (λ (q : ℕ × ℕ). bs ≡ network_text q.0 q.1) p.2 (cut.whole ∙ (λ i. x i ++ 47 ∷ y i))

pub action_of_text : (a : Action) → action_of (action_text a) ≡ Some a
action_of_text Allow = refl
action_of_text Block = refl

action_by : (bs : List ℕ) (t u : Bool) (a : Action) → (t ≡ true → bs ≡ codes "allow") → (u ≡ true → bs ≡ codes "block") → cond t (Some Allow) (cond u (Some Block) None) ≡ Some a → bs ≡ action_text a
action_by bs t u a x y e = grind arith

pub text_of_action : (bs : List ℕ) (a : Action) → action_of bs ≡ Some a → bs ≡ action_text a
text_of_action bs a e = action_by bs _ _ a (bytes_eq-Decides bs (codes "allow")).0 (bytes_eq-Decides bs (codes "block")).0 e

pub ports_of_text : (x y : ℕ) → x ≤ 65535 → y ≤ 65535 → ports_of (ports_text x y) ≡ Some (x, y)
ports_of_text x y hx hy =
    rw (split_at 45 (decimal x) (decimal y) (lacks_decimal 45 x (omega arith) (λ d. omega arith)), number_decimal 65535 x hx (omega arith), number_decimal 65535 y hy (omega arith))

pub text_of_ports : (bs : List ℕ) (n : ℕ × ℕ) → ports_of bs ≡ Some n → bs ≡ ports_text n.0 n.1
text_of_ports bs n e =
    let s = then_parts (split 45 bs) _ n e in
    let cut = split_cuts 45 bs s.0.0 s.0.1 s.1 in
    let a = then_parts (number_of 65535 s.0.0) _ n s.2 in
    let p = option_map_some _ (number_of 65535 s.0.1) n a.2 in
    let x = (decimal_number 65535 a.0 s.0.0 (omega arith) a.1).0 in
    let y = (decimal_number 65535 p.0 s.0.1 (omega arith) p.1).0 in
    subst (λ (q : ℕ × ℕ). bs ≡ ports_text q.0 q.1) p.2 (cut.whole ∙ (λ i. x i ++ 45 ∷ y i))

-- no field holds a space

pub no_space_network : (a p : ℕ) → p ≤ 255 → Lacks 32 (network_text a p)
no_space_network a p h =
    lacks_append 32 (address_text a) (47 ∷ decimal p) (lacks_address 32 a (λ d. omega arith) (λ d. omega arith)) (λ d. omega arith, lacks_decimal 32 p (omega arith) (λ d. omega arith))

pub no_space_action : (a : Action) → Lacks 32 (action_text a)
no_space_action Allow = (λ e. omega arith, (λ e. omega arith, (λ e. omega arith, (λ e. omega arith, (λ e. omega arith, tt)))))
no_space_action Block = (λ e. omega arith, (λ e. omega arith, (λ e. omega arith, (λ e. omega arith, (λ e. omega arith, tt)))))

pub no_space_ports : (x y : ℕ) → x ≤ 65535 → y ≤ 65535 → Lacks 32 (ports_text x y)
no_space_ports x y hx hy = lacks_between 32 45 x (decimal y) (omega arith) (λ d. omega arith) (λ d. omega arith) (lacks_decimal 32 y (omega arith) (λ d. omega arith))
