-- The word of a slot set against what the set means. Assumes nothing.
use Rattle.std.proofs.Common.{◌≡◌, ℕ, ◌+◌, ◌-◌, ◌*◌, ◌%◌, ◌^◌, ◌<◌, ◌≤◌, Bool, false, cond, not, ◌&&◌, ◌||◌, eqb, Some, Decides, sym, refl, ap, ◌∙◌, ap₂, ⊎_elim, arith}
use mathlib.Core.Path.{fun_ext}
use mathlib.Core.Bool.{and-true}
use lib.Bits.{bit_and, bit_or}
use lib.Count.{ones, count_trailing_zeros}
use Rattle.std.proofs.lemmas.Nat.{one_shl}
use Rattle.std.proofs.lemmas.Bool.{lt-ltb, and_left, eqb-true, eq-eqb, cases_lt}
use Rattle.slots.specs.declared.SlotSet.{SlotSet}
use Rattle.slots.specs.Sets.{none, alone, either, both, without, any, tally, least, meet, Lowest}
use Rattle.slots.specs.Meaning.{bit, has}
use Rattle.slots.proofs.Sets.{none_at, either_at, both_at, without_at, alone_other, least_lowest, tally_same}
use Rattle.slots.proofs.Members.{has_outside, none_from, meet_alone, fewer_removed, empty_any}
use Rattle.slots.proofs.Words.{bit_at_or, bit_at_and, bit_not, bit_zero, bit_one, same_bits, trailing_below, trailing_at, tally_ones}

-- below 64 a set has what its word has
pub has_bit : (s : SlotSet) (x : ℕ) → x < 64 → has s x ≡ bit s.bits x
unfolding has
has_bit s x h = ap (λ b. b && bit s.bits x) (lt-ltb x 64 h)

-- a function that is false from 64 on is what a word means, where it is so below 64
pub has_from : (s : SlotSet) (f : ℕ → Bool) → ((x : ℕ) → x < 64 → bit s.bits x ≡ f x) → ((x : ℕ) → 64 ≤ x → f x ≡ false) → has s ≡ f
has_from s f below above =
    fun_ext (λ x. ⊎_elim (λ l. has_bit s x l ∙ below x l) (λ l. has_outside s x l ∙ sym (above x l)) (cases_lt x 64))

pub has_none : (s : SlotSet) → s.bits ≡ 0 → has s ≡ none
has_none s e = has_from s none (λ x l. ap (λ w. bit w x) e ∙ bit_zero x ∙ sym (none_at x)) (λ x l. none_at x)

pub has_alone : (s : SlotSet) (x : ℕ) → x < 64 → s.bits ≡ (1 * 2 ^ x) % 2 ^ 64 → has s ≡ alone x
has_alone s x h e =
    let one : s.bits ≡ 2 ^ x = e ∙ one_shl x 64 h in
    has_from s (alone x)
    (λ y l. ap (λ w. bit w y) one ∙ bit_one x y ∙ sym (ap (λ b. eqb y x && b) (lt-ltb x 64 h) ∙ and-true (eqb y x)))
    (λ y l. alone_other x y (λ same. omega arith))

pub has_either : (a b : SlotSet) → has (record { bits = bit_or a.bits b.bits }) ≡ either (has a) (has b)
has_either a b = has_from _ (either (has a) (has b))
    (λ x l. bit_at_or x a.bits b.bits ∙ sym (either_at (has a) (has b) x ∙ ap₂ (λ p q. p || q) (has_bit a x l) (has_bit b x l)))
    (λ x l. either_at (has a) (has b) x ∙ ap₂ (λ p q. p || q) (has_outside a x l) (has_outside b x l))

pub has_both : (a b : SlotSet) → has (record { bits = bit_and a.bits b.bits }) ≡ both (has a) (has b)
has_both a b = has_from _ (both (has a) (has b))
    (λ x l. bit_at_and x a.bits b.bits ∙ sym (both_at (has a) (has b) x ∙ ap₂ (λ p q. p && q) (has_bit a x l) (has_bit b x l)))
    (λ x l. both_at (has a) (has b) x ∙ and_left _ _ (has_outside a x l))

pub has_without : (a b : SlotSet) → b.bits < 2 ^ 64 → has (record { bits = bit_and a.bits (18446744073709551615 - b.bits) }) ≡ without (has a) (has b)
has_without a b fits = has_from _ (without (has a) (has b))
    (λ x l.
    bit_at_and x a.bits (18446744073709551615 - b.bits) ∙ ap (λ q. bit a.bits x && q) (bit_not 64 b.bits x fits l)
    ∙ sym (without_at (has a) (has b) x ∙ ap₂ (λ p q. p && not q) (has_bit a x l) (has_bit b x l)))
    (λ x l. without_at (has a) (has b) x ∙ and_left _ _ (has_outside a x l))

pub meet_only : (r : SlotSet) (x : ℕ) → has r ≡ alone x → (s : SlotSet) → meet (has s) (has r) ≡ has s x
meet_only r x e s = ap (meet (has s)) e ∙ meet_alone s x

pub fewer_only : (r : SlotSet) (x : ℕ) → has r ≡ alone x → (s : SlotSet) → tally (without (has s) (has r)) + cond (has s x) 1 0 ≡ tally (has s)
fewer_only r x e s = ap (λ f. tally (without (has s) f) + cond (has s x) 1 0) e ∙ fewer_removed s x

-- sets that mean the same are equal
pub same_set : (a b : SlotSet) → a.bits < 2 ^ 64 → b.bits < 2 ^ 64 → has a ≡ has b → a.bits ≡ b.bits
same_set a b p q e = same_bits 64 a.bits b.bits p q (λ x l. sym (has_bit a x l) ∙ ap (λ f. f x) e ∙ has_bit b x l)

pub equal_decides : (a b : SlotSet) → a.bits < 2 ^ 64 → b.bits < 2 ^ 64 → Decides (eqb a.bits b.bits) (has a ≡ has b)
equal_decides a b p q = (λ e. ap (λ w. has (record { bits = w })) (eqb-true a.bits b.bits e), λ e. eq-eqb a.bits b.bits (same_set a b p q e))

pub empty_decides : (s : SlotSet) → s.bits < 2 ^ 64 → Decides (eqb s.bits 0) (has s ≡ none)
empty_decides s p = (
  λ e. has_none s (eqb-true s.bits 0 e),
  λ e. eq-eqb s.bits 0 (same_set s (record { bits = 0 }) p (omega arith) (e ∙ sym (has_none (record { bits = 0 }) refl))),
)

pub empty_is : (s : SlotSet) → s.bits < 2 ^ 64 → eqb s.bits 0 ≡ not (any (has s))
empty_is s p = empty_any s (eqb s.bits 0) (empty_decides s p)

pub lowest_some : (s : SlotSet) → count_trailing_zeros 64 s.bits < 64 → Lowest (has s) (count_trailing_zeros 64 s.bits)
lowest_some s h = record {
  inside = h;
  member = has_bit s _ h ∙ trailing_at 64 s.bits h;
  first = λ y l. has_bit s y (omega arith) ∙ trailing_below 64 s.bits y l;
}

pub lowest_some_is : (s : SlotSet) → count_trailing_zeros 64 s.bits < 64 → Some (count_trailing_zeros 64 s.bits) ≡ least (has s)
lowest_some_is s h = sym (least_lowest (has s) _ (lowest_some s h))

pub lowest_none : (s : SlotSet) → 64 ≤ count_trailing_zeros 64 s.bits → has s ≡ none
lowest_none s h = none_from s (λ x l. has_bit s x l ∙ trailing_below 64 s.bits x (omega arith))

pub tally_word : (s : SlotSet) → s.bits < 2 ^ 64 → tally (has s) ≡ ones s.bits
tally_word s h = tally_same 64 (has s) (bit s.bits) (λ x l. has_bit s x l) ∙ tally_ones 64 s.bits h
