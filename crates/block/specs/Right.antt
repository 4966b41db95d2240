-- What is right with a block, and that one that is right holds rules. Assumes nothing.
use Rattle.std.specs.Prelude.{◌≡◌, ℕ, zero, suc, ◌+◌, ◌<◌, ◌≤◌, Bool, true, false, cond, not, ◌&&◌, List, length, drop, is_some, Some, None, Option, ◌==◌, bit_or, nat_eq, slice_index, refl}
use Rattle.std.proofs.Common.{sym, ap, ◌∙◌, ⊎_elim, add-one, arith}
use Rattle.std.specs.Int.Bits.{or_zero_l, or_add_and}
use Rattle.std.proofs.lemmas.Nat.{and_le_r}
use Rattle.std.proofs.lemmas.List.{drop_more, drop_all}
use Rattle.std.proofs.lemmas.Bool.{cases_eq, and_from, and_parts, and_left, and_right, eq-eqb, ne_eqb, cond-false, not_from_true}
use Rattle.refusal.specs.declared.Fault.TheVariants.{Check, Head, Record}
use Rattle.rule.specs.declared.Rule.{Rule}
use Rattle.block.specs.Layout.{rule_at, all_zero, rules_below, check_right, head_right, body_right, damage_of, record_start}

-- a byte that is seen is not lost
pub or_test : (a b : ℕ) → (bit_or a b == 0) ≡ (a == 0 && b == 0)
or_test a b =
    ⊎_elim
    (λ e. ap (λ v. nat_eq v 0) (ap (λ v. bit_or v b) e ∙ or_zero_l b) ∙ sym (ap (λ t. t && b == 0) (eq-eqb a 0 e)))
    (λ ne. ne_eqb _ _ (λ z. ne (omega (arith, or_add_and a b, and_le_r a b))) ∙ sym (ap (λ t. t && b == 0) (ne_eqb a 0 ne)))
    (cases_eq a 0)

and_assoc : (x y z : Bool) → (x && (y && z)) ≡ ((x && y) && z)
and_assoc true y z = refl
and_assoc false y z = refl

-- the loop over bytes that ought to be zero
pub zeros_more : (bytes : List ℕ) (i seen : ℕ) → i < length bytes → (seen == 0 && all_zero (drop i bytes)) ≡ all_zero bytes → (bit_or seen (slice_index bytes i) == 0 && all_zero (drop (i + 1) bytes)) ≡ all_zero bytes
unfolding all_zero
zeros_more bytes i seen h inv =
    ap (λ t. t && all_zero (drop (i + 1) bytes)) (or_test seen (slice_index bytes i))
    ∙ sym (and_assoc (seen == 0) (slice_index bytes i == 0) (all_zero (drop (i + 1) bytes)))
    ∙ ap (λ bs. (seen == 0) && all_zero bs) (sym (drop_more bytes i 0 h))
    ∙ inv

pub and_true : (x : Bool) → (x && true) ≡ x
and_true true = refl
and_true false = refl

pub zeros_all : (bytes : List ℕ) (i seen : ℕ) → length bytes ≤ i → (seen == 0 && all_zero (drop i bytes)) ≡ all_zero bytes → (seen == 0) ≡ all_zero bytes
unfolding all_zero
zeros_all bytes i seen h inv = sym (and_true _) ∙ ap (λ bs. (seen == 0) && all_zero bs) (sym (drop_all i bytes h)) ∙ inv

-- the loop over records
pub rules_none : (b : List ℕ) → rules_below b 0 ≡ true
unfolding rules_below
rules_none b = refl

pub rules_more : (b : List ℕ) (i : ℕ) (r : Rule) → rule_at b i ≡ Some r → rules_below b i ≡ true → rules_below b (i + 1) ≡ true
unfolding rules_below
rules_more b i r e h = ap (rules_below b) (add-one i) ∙ and_from _ _ (ap is_some e) h

pub rules_not : (b : List ℕ) (i k : ℕ) → i < k → rule_at b i ≡ None → rules_below b k ≡ false
unfolding rules_below
rules_not b i zero l e = absurd (omega arith)
rules_not b i (suc k) l e = ⊎_elim (λ same. and_left _ _ (ap is_some (ap (rule_at b) (sym same) ∙ e))) (λ ne. and_right _ _ (rules_not b i k (omega arith) e)) (cases_eq i k)

-- the three things that are right with a block that is not damaged
pub record Right (b : List ℕ) (n k : ℕ) : Type 0 where
  pub check : check_right b ≡ true
  pub head : head_right b n k ≡ true
  pub body : body_right b k ≡ true

right_of : (b : List ℕ) (n k : ℕ) (x y z : Bool) → x ≡ check_right b → y ≡ head_right b n k → z ≡ body_right b k → cond (not x) (Some Check) (cond (not y) (Some Head) (cond (not z) (Some Record) None)) ≡ None → Right b n k
right_of b n k true true true x y z e = record { check = sym x; head = sym y; body = sym z }
right_of b n k true true false x y z e = absurd (let w : ◌≡◌ {A = ℕ} 0 1 = cc in omega arith)
right_of b n k true false z x y w e = absurd (let w : ◌≡◌ {A = ℕ} 0 1 = cc in omega arith)
right_of b n k false y z x w v e = absurd (let w : ◌≡◌ {A = ℕ} 0 1 = cc in omega arith)

pub right_from_none : (b : List ℕ) (n k : ℕ) → damage_of b n k ≡ None → Right b n k
unfolding damage_of
right_from_none b n k e = right_of b n k _ _ _ refl refl refl e

pub none_from_right : (b : List ℕ) (n k : ℕ) → Right b n k → damage_of b n k ≡ None
unfolding damage_of
none_from_right b n k h = cond-false _ _ _ (not_from_true _ h.check) ∙ cond-false _ _ _ (not_from_true _ h.head) ∙ cond-false _ _ _ (not_from_true _ h.body)

-- each record of a block that is not damaged holds a rule
pub rules_each : (b : List ℕ) (k : ℕ) → rules_below b k ≡ true → (i : ℕ) → i < k → is_some (rule_at b i) ≡ true
unfolding rules_below
rules_each b zero e i h = absurd (omega arith)
rules_each b (suc k) e i h =
    let both = and_parts (is_some (rule_at b k)) (rules_below b k) e in
    ⊎_elim (λ same. ap (λ j. is_some (rule_at b j)) same ∙ both.0) (λ ne. rules_each b k both.1 i (omega arith)) (cases_eq i k)

pub rules_from_each : (b : List ℕ) (k : ℕ) → ((i : ℕ) → i < k → is_some (rule_at b i) ≡ true) → rules_below b k ≡ true
unfolding rules_below
rules_from_each b zero each = refl
rules_from_each b (suc k) each = and_from _ _ (each k (omega arith)) (rules_from_each b k (λ i h. each i (omega arith)))

pub some_is : {X : Type 0} (o : Option X) → is_some o ≡ true → (x : X) × (o ≡ Some x)
some_is None e = absurd (let w : ◌≡◌ {A = ℕ} 0 1 = cc in omega arith)
some_is (Some x) e = (x, refl)

pub rule_there : (b : List ℕ) (n k i : ℕ) → damage_of b n k ≡ None → i < k → (r : Rule) × (rule_at b i ≡ Some r)
unfolding body_right
rule_there b n k i e h =
    some_is (rule_at b i) (rules_each b k (and_parts (rules_below b k) (all_zero (drop (record_start k) b)) (right_from_none b n k e).body).0 i h)
