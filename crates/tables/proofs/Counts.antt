-- Sets of slots below a count. Assumes nothing.
use Rattle.std.proofs.Common.{◌≡◌, ℕ, zero, suc, ◌<◌, ◌≤◌, Bool, true, false, cond, Some, None, sym, refl, ap, ◌∙◌, ⊎_elim, arith}
use mathlib.Core.Path.{fun_ext}
use Rattle.std.specs.Option.{option_or}
use Rattle.std.proofs.lemmas.Bool.{cases_lt, cases_eq, cond_below, cond_above}
use Rattle.slots.specs.declared.SlotSet.{SlotSet}
use Rattle.slots.specs.Sets.{none, both, inserted, Lowest}
use Rattle.slots.specs.Meaning.{has}
use Rattle.slots.proofs.Sets.{none_at, both_at, inserted_same, inserted_other, inserted_outside}
use Rattle.law.specs.Accounts.{changed}
use Rattle.tables.specs.Meaning.{below, shared}
use Rattle.tables.proofs.Tables.{changed_here, changed_other}
use Rattle.calls.specs.Sets.{lowest}

-- no number below n passes a test that none passes
pub lowest_none : (n : ℕ) (f : ℕ → Bool) → ((x : ℕ) → x < n → f x ≡ false) → lowest n f ≡ None
lowest_none zero f h = refl
lowest_none (suc n) f h =
    let before = lowest_none n f (λ x l. h x (omega arith)) in
    ap (λ o. option_or o (cond (f n) (Some n) None)) before ∙ ap (λ b. cond b (Some n) None) (h n (omega arith))

pub lowest_here : (n x : ℕ) (f : ℕ → Bool) → x < n → f x ≡ true → ((y : ℕ) → y < x → f y ≡ false) → lowest n f ≡ Some x
lowest_here zero x f l e before = absurd (omega arith)
lowest_here (suc n) x f l e before = ⊎_elim
    (λ (same : x ≡ n). let first = lowest_none n f (λ y k. before y (omega arith)) in
    ap (λ o. option_or o (cond (f n) (Some n) None)) first ∙ ap (λ b. cond b (Some n) None) (ap f (sym same) ∙ e) ∙ ap Some (sym same))
    (λ ne. ap (λ o. option_or o (cond (f n) (Some n) None)) (lowest_here n x f (omega arith) e before))
    (cases_eq x n)

-- the lowest slot of a set, by the bound
pub lowest_inside : (n x : ℕ) (s : SlotSet) → x < n → Lowest (has s) x → lowest n (has s) ≡ Some x
lowest_inside n x s l low = lowest_here n x (has s) l low.member low.first

pub lowest_outside : (n x : ℕ) (s : SlotSet) → n ≤ x → Lowest (has s) x → lowest n (has s) ≡ None
lowest_outside n x s l low = lowest_none n (has s) (λ y k. low.first y (omega arith))

pub lowest_empty : (n : ℕ) (s : SlotSet) → has s ≡ none → lowest n (has s) ≡ None
lowest_empty n s e = lowest_none n (has s) (λ x l. ap (λ f. f x) e ∙ none_at x)

pub both_is : (f g : ℕ → Bool) → both f g ≡ shared f g
both_is f g = fun_ext (λ x. both_at f g x)

pub none_is : none ≡ (λ _. false)
none_is = fun_ext none_at

pub inserted_is : (f : ℕ → Bool) (x : ℕ) → inserted f x ≡ below 64 x (changed x (λ _. true)) f
inserted_is f x = ⊎_elim
    (λ l. fun_ext (λ y. ⊎_elim (here l y) (other y) (cases_eq y x)) ∙ cond_below x 64 _ _ l)
    (λ l. cond_above x 64 _ _ _ l (inserted_outside f x l))
    (cases_lt x 64)
  where
    here : x < 64 → (y : ℕ) → y ≡ x → inserted f x y ≡ changed x (λ _. true) f y
    here l y s = ap (inserted f x) s ∙ inserted_same f x l ∙ sym (changed_here x y (λ _. true) f s)

    other : (y : ℕ) → (y ≡ x → ⊥) → inserted f x y ≡ changed x (λ _. true) f y
    other y ne = inserted_other f x y ne ∙ sym (changed_other x y (λ _. true) f ne)
