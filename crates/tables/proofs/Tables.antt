-- Tables over slots, value by value. Assumes nothing.
use Rattle.std.proofs.Common.{◌≡◌, ℕ, ◌+◌, ◌<◌, ◌≤◌, Bool, true, false, cond, not, ◌&&◌, ltb, List, length, set, replicate, is_some, Some, None, Option, sym, refl, ap, ◌∙◌, ap₂, ⊎_elim, arith}
use mathlib.Core.Path.{fun_ext}
use Rattle.std.specs.Prelude.{IfSome, slice_get}
use Rattle.std.specs.Option.{option_or}
use Rattle.std.proofs.lemmas.Bool.{both_ways, cases_lt, cases_eq, cases_Bool, eq-eqb, ne_eqb, lt-ltb, le-ltb, cond_below, cond_above, and_parts}
use Rattle.std.proofs.lemmas.List.{length-set, length-replicate, get_or-set_same, get_or-set_other, get_or-replicate}
use Rattle.std.proofs.lemmas.Option.{slice_get-get_or, slice_get_past, slice_get_cases}
use Rattle.slots.specs.declared.SlotSet.{SlotSet}
use Rattle.slots.specs.Sets.{none, inserted, removed, without, Lowest}
use Rattle.slots.specs.Meaning.{has}
use Rattle.slots.proofs.Sets.{none_at, without_at, inserted_same, inserted_other, removed_same, removed_other, removed_outside}
use Rattle.slots.proofs.Members.{has_outside, has_inside}
use Rattle.law.specs.Accounts.{changed}
use Rattle.tables.specs.declared.SlotMap.{SlotMap}
use Rattle.calls.specs.Effects.{up_to_gone}
use Rattle.tables.specs.Meaning.{kept, at, below, filled, marked, cleared, overlaid}

-- nothing is in a set with no slot
pub none_in : (s : SlotSet) → has s ≡ none → (x : ℕ) → has s x ≡ true → false ≡ true
none_in s e x h = sym (none_at x) ∙ sym (ap (λ f. f x) e) ∙ h

module _ {X : Type 0} where
  pub at_is : (m : SlotMap X) (x : ℕ) → at m x ≡ cond (has m.slots x) (kept m.values x) None
  unfolding at
  at_is m x = refl

  pub at_none : (m : SlotMap X) (x : ℕ) → has m.slots x ≡ false → at m x ≡ None
  at_none m x e = at_is m x ∙ ap (λ b. cond b (kept m.values x) None) e

  pub at_some : (m : SlotMap X) (x : ℕ) → has m.slots x ≡ true → at m x ≡ kept m.values x
  at_some m x e = at_is m x ∙ ap (λ b. cond b (kept m.values x) None) e

  pub at_empty : (m : SlotMap X) → has m.slots ≡ none → at m ≡ (λ _. None)
  at_empty m e = fun_ext (λ x. at_none m x (ap (λ f. f x) e ∙ none_at x))

  pub at_outside : (m : SlotMap X) (x : ℕ) → 64 ≤ x → at m x ≡ None
  at_outside m x l = at_none m x (has_outside m.slots x l)

  place_filled : (vs : List X) (x : ℕ) → x < length vs → is_some (slice_get vs x) ≡ true
  place_filled vs x l = ⊎_elim (λ p. ap is_some p.2) (λ p. absurd (omega (arith, p.0))) (slice_get_cases vs x).1

  kept_filled : (o : Option (List X)) (x : ℕ) → is_some o ≡ true → x < 64 → IfSome o (λ vs. length vs ≡ 64) → is_some (kept o x) ≡ true
  kept_filled None x e l long = absurd (both_ways false refl e)
  kept_filled (Some vs) x e l long = place_filled vs x (omega (arith, long))

  -- the set has just the slots whose value is there
  pub slots_filled : (m : SlotMap X) → has m.slots ≡ filled (at m)
  slots_filled m = fun_ext (λ x. ⊎_elim
      (λ e. e ∙ sym (ap is_some (at_some m x e) ∙ kept_filled m.values x (m.made x e) (has_inside m.slots x e) m.full))
      (λ e. e ∙ sym (ap is_some (at_none m x e)))
      (cases_Bool (has m.slots x)))

  -- a function changed at a number, there and elsewhere
  pub changed_here : (x y : ℕ) (f : X → X) (g : ℕ → X) → y ≡ x → changed x f g y ≡ f (g y)
  changed_here x y f g e = ap (λ b. cond b (f (g y)) (g y)) (eq-eqb y x e)

  pub changed_other : (x y : ℕ) (f : X → X) (g : ℕ → X) → (y ≡ x → ⊥) → changed x f g y ≡ g y
  changed_other x y f g ne = ap (λ b. cond b (f (g y)) (g y)) (ne_eqb y x ne)

  -- a place of a list after a store
  set_here : (vs : List X) (x : ℕ) (v : X) → x < length vs → slice_get (set vs x v) x ≡ Some v
  set_here vs x v l = slice_get-get_or (set vs x v) x v (rw length-set l) ∙ ap Some (get_or-set_same vs x v v l)

  set_other : (vs : List X) (x y : ℕ) (v : X) → (y ≡ x → ⊥) → slice_get (set vs x v) y ≡ slice_get vs y
  set_other vs x y v ne = ⊎_elim
      (λ l. slice_get-get_or (set vs x v) y v (rw length-set l) ∙ ap Some (get_or-set_other vs x y v v ne) ∙ sym (slice_get-get_or vs y v l))
      (λ l. slice_get_past (set vs x v) y (rw length-set l) ∙ sym (slice_get_past vs y l))
      (cases_lt y (length vs))

module _ {X : Type 0} where
  put_at : (m n : SlotMap X) (x : ℕ) (v : X) → x < 64 → kept n.values x ≡ Some v → ((y : ℕ) → (y ≡ x → ⊥) → has m.slots y ≡ true → kept n.values y ≡ kept m.values y) → has n.slots ≡ inserted (has m.slots) x → at n ≡ changed x (λ _. Some v) (at m)
  put_at m n x v l new old slots = fun_ext (λ y. ⊎_elim (here y) (other y) (cases_eq y x))
    where
      here : (y : ℕ) → y ≡ x → at n y ≡ changed x (λ _. Some v) (at m) y
      here y e = ap (at n) e ∙ at_some n x (ap (λ f. f x) slots ∙ inserted_same (has m.slots) x l) ∙ new ∙ sym (changed_here x y (λ _. Some v) (at m) e)

      stays : (y : ℕ) → (y ≡ x → ⊥) → at n y ≡ at m y
      stays y ne =
          let same = ap (λ f. f y) slots ∙ inserted_other (has m.slots) x y ne in
          ⊎_elim (λ e. at_some n y (same ∙ e) ∙ old y ne e ∙ sym (at_some m y e)) (λ e. at_none n y (same ∙ e) ∙ sym (at_none m y e)) (cases_Bool (has m.slots y))

      other : (y : ℕ) → (y ≡ x → ⊥) → at n y ≡ changed x (λ _. Some v) (at m) y
      other y ne = stays y ne ∙ sym (changed_other x y (λ _. Some v) (at m) ne)

  -- a value is put where the list of values is there
  pub put_is : (m n : SlotMap X) (vs : List X) (x : ℕ) (v : X) → x < 64 → length vs ≡ 64 → m.values ≡ Some vs → n.values ≡ Some (set vs x v) → has n.slots ≡ inserted (has m.slots) x → at n ≡ changed x (λ _. Some v) (at m)
  put_is m n vs x v l long before after slots = put_at m n x v l
      (ap (λ o. kept o x) after ∙ set_here vs x v (omega arith))
      (λ y ne e. ap (λ o. kept o y) after ∙ set_other vs x y v ne ∙ ap (λ o. kept o y) (sym before))
      slots

  -- the first value is put
  pub first_is : (m n : SlotMap X) (x : ℕ) (v : X) → x < 64 → m.values ≡ None → n.values ≡ Some (replicate 64 v) → has n.slots ≡ inserted (has m.slots) x → at n ≡ changed x (λ _. Some v) (at m)
  first_is m n x v l before after slots = put_at m n x v l
      (ap (λ o. kept o x) after ∙ slice_get-get_or (replicate 64 v) x v (rw length-replicate l) ∙ ap Some (get_or-replicate 64 x v v l))
      (λ y ne e. absurd (both_ways (is_some m.values) (ap is_some before) (m.made y e)))
      slots

  same_is : (m n : SlotMap X) → n.values ≡ m.values → has n.slots ≡ has m.slots → at n ≡ at m
  same_is m n vals slots = fun_ext (λ y. at_is n y ∙ ap₂ (λ b o. cond b (kept o y) None) (ap (λ f. f y) slots) vals ∙ sym (at_is m y))

  pub remove_is : (m n : SlotMap X) (x : ℕ) → n.values ≡ m.values → has n.slots ≡ removed (has m.slots) x → at n ≡ below 64 x (changed x (λ _. None)) (at m)
  remove_is m n x vals slots = ⊎_elim
      (λ l. fun_ext (λ y. ⊎_elim (here l y) (other y) (cases_eq y x)) ∙ cond_below x 64 _ _ l)
      (λ l. cond_above x 64 _ _ _ l (same_is m n vals (slots ∙ removed_outside (has m.slots) x l)))
      (cases_lt x 64)
    where
      here : x < 64 → (y : ℕ) → y ≡ x → at n y ≡ changed x (λ _. None) (at m) y
      here l y e = ap (at n) e ∙ at_none n x (ap (λ f. f x) slots ∙ removed_same (has m.slots) x l) ∙ sym (changed_here x y (λ _. None) (at m) e)

      other : (y : ℕ) → (y ≡ x → ⊥) → at n y ≡ changed x (λ _. None) (at m) y
      other y ne =
          at_is n y ∙ ap₂ (λ b o. cond b (kept o y) None) (ap (λ f. f y) slots ∙ removed_other (has m.slots) x y ne) vals
          ∙ sym (at_is m y) ∙ sym (changed_other x y (λ _. None) (at m) ne)

  less : (b c : Bool) (o : Option X) → cond (b && not c) o None ≡ cond c None (cond b o None)
  less true true o = refl
  less true false o = refl
  less false true o = refl
  less false false o = refl

  pub clear_is : (m n : SlotMap X) (s : SlotSet) → n.values ≡ m.values → has n.slots ≡ without (has m.slots) (has s) → at n ≡ cleared (has s) (at m)
  clear_is m n s vals slots = fun_ext (λ y.
      at_is n y ∙ ap₂ (λ b o. cond b (kept o y) None) (ap (λ f. f y) slots ∙ without_at (has m.slots) (has s) y) vals
      ∙ less (has m.slots y) (has s y) (kept m.values y)
      ∙ ap (λ o. cond (has s y) None o) (sym (at_is m y)))

-- a loop over the slots: below the loop's slot one function, from it on another
abbrev pub upto : {X : Type 0} → ℕ → (ℕ → X) → (ℕ → X) → ℕ → X
upto k new old x = cond (ltb x k) (new x) (old x)

module _ {X : Type 0} (new old : ℕ → X) where
  pub upto_below : (k x : ℕ) → x < k → upto k new old x ≡ new x
  upto_below k x l = ap (λ b. cond b (new x) (old x)) (lt-ltb x k l)

  pub upto_above : (k x : ℕ) → k ≤ x → upto k new old x ≡ old x
  upto_above k x l = ap (λ b. cond b (new x) (old x)) (le-ltb x k l)

  pub upto_none : upto 0 new old ≡ old
  upto_none = fun_ext (λ x. upto_above 0 x (omega arith))

  pub upto_all : (k : ℕ) → ((x : ℕ) → k ≤ x → new x ≡ old x) → upto k new old ≡ new
  upto_all k h = fun_ext (λ x. ⊎_elim (upto_below k x) (λ l. upto_above k x l ∙ sym (h x l)) (cases_lt x k))

  -- the loop is over
  pub upto_end : {f : ℕ → X} (k n : ℕ) → k ≡ n → f ≡ upto k new old → ((x : ℕ) → n ≤ x → new x ≡ old x) → f ≡ new
  upto_end k n e so_far h = so_far ∙ ap (λ m. upto m new old) e ∙ upto_all n h

  pub upto_same : (k : ℕ) → new k ≡ old k → upto k new old ≡ upto (k + 1) new old
  upto_same k e = fun_ext (λ x. ⊎_elim
      (λ l. upto_below k x l ∙ sym (upto_below (k + 1) x (omega arith)))
      (λ l. upto_above k x l ∙ ⊎_elim (λ (s : x ≡ k). ap old s ∙ sym e ∙ sym (ap new s) ∙ sym (upto_below (k + 1) x (omega arith))) (λ ne. sym (upto_above (k + 1) x (omega arith))) (cases_eq x k))
      (cases_lt x k))

  pub upto_more : (k : ℕ) (f : X → X) → f (old k) ≡ new k → changed k f (upto k new old) ≡ upto (k + 1) new old
  upto_more k f e = fun_ext (λ x. ⊎_elim
      (λ (s : x ≡ k). changed_here k x f (upto k new old) s ∙ ap f (upto_above k x (omega arith) ∙ ap old s) ∙ e ∙ sym (ap new s) ∙ sym (upto_below (k + 1) x (omega arith)))
      (λ ne. changed_other k x f (upto k new old) ne ∙ ⊎_elim (λ l. upto_below k x l ∙ sym (upto_below (k + 1) x (omega arith))) (λ l. upto_above k x l ∙ sym (upto_above (k + 1) x (omega arith))) (cases_lt x k))
      (cases_eq x k))

-- on the numbers of a set, what a function makes of the number and of what stands there
abbrev pub applied : {X : Type 0} → (ℕ → Bool) → (ℕ → X → X) → (ℕ → X) → ℕ → X
applied s h f x = cond (s x) (h x (f x)) (f x)

-- what the loops here make of it
abbrev pub putting : {X : Type 0} → X → ℕ → Option X → Option X
putting v x o = Some v

abbrev pub coming_over : {X : Type 0} → SlotMap X → ℕ → Option X → Option X
coming_over m x o = option_or (at m x) o

abbrev pub forgetting : ℕ → ℕ → Option ℕ → Option ℕ
forgetting n x o = up_to_gone n o

module _ {X : Type 0} (h : ℕ → X → X) where
  -- a loop over the slots of a set: r are to come before a turn and t after it
  applied_turn : (r t : ℕ → Bool) (k : ℕ) (f g : ℕ → X) → Lowest r k → t ≡ removed r k → g k ≡ h k (f k) → ((x : ℕ) → (x ≡ k → ⊥) → g x ≡ f x) → applied t h g ≡ applied r h f
  applied_turn r t k f g low e here same = ap (λ s. applied s h g) e ∙ fun_ext (λ x. ⊎_elim (at_turn x) (other x) (cases_eq x k))
    where
      at_turn : (x : ℕ) → x ≡ k → applied (removed r k) h g x ≡ applied r h f x
      at_turn x s =
          ap (applied (removed r k) h g) s ∙ ap (λ b. cond b (h k (g k)) (g k)) (removed_same r k low.inside) ∙ here
          ∙ sym (ap (λ b. cond b (h k (f k)) (f k)) low.member) ∙ sym (ap (applied r h f) s)

      other : (x : ℕ) → (x ≡ k → ⊥) → applied (removed r k) h g x ≡ applied r h f x
      other x ne = ap₂ (λ b v. cond b (h x v) v) (removed_other r k x ne) (same x ne)

  pub applied_more : (r t : ℕ → Bool) (k : ℕ) (v : X) (f g : ℕ → X) → Lowest r k → t ≡ removed r k → g ≡ below 64 k (changed k (λ _. v)) f → h k (f k) ≡ v → applied t h g ≡ applied r h f
  applied_more r t k v f g low e put is =
      let now = put ∙ sym (cond_below k 64 (changed k (λ _. v) f) f low.inside) in
      applied_turn r t k f g low e (ap (λ p. p k) now ∙ changed_here k k (λ _. v) f refl ∙ sym is) (λ x ne. ap (λ p. p x) now ∙ changed_other k x (λ _. v) f ne)

  pub applied_kept : (r t : ℕ → Bool) (k : ℕ) (f : ℕ → X) → Lowest r k → t ≡ removed r k → h k (f k) ≡ f k → applied t h f ≡ applied r h f
  applied_kept r t k f low e is = applied_turn r t k f f low e (sym is) (λ x ne. refl)

  pub applied_none : (r : ℕ → Bool) (f : ℕ → X) → r ≡ none → applied r h f ≡ f
  applied_none r f e = ap (λ s. applied s h f) e ∙ fun_ext (λ x. ap (λ b. cond b (h x (f x)) (f x)) (none_at x))

  -- elsewhere nothing is made of what stands there
  pub applied_all : (s : ℕ → Bool) (f : ℕ → X) → ((x : ℕ) → s x ≡ false → h x (f x) ≡ f x) → applied s h f ≡ (λ x. h x (f x))
  applied_all s f same = fun_ext (λ x. ⊎_elim
      (λ e. ap (λ b. cond b (h x (f x)) (f x)) e)
      (λ e. ap (λ b. cond b (h x (f x)) (f x)) e ∙ sym (same x e))
      (cases_Bool (s x)))

module _ {X : Type 0} where
  pub marked_outside : (s : SlotSet) (v : X) (f : ℕ → Option X) (x : ℕ) → 64 ≤ x → marked (has s) v f x ≡ f x
  marked_outside s v f x l = ap (λ b. cond b (Some v) (f x)) (has_outside s x l)

  pub marked_none : (s : SlotSet) (v : X) (f : ℕ → Option X) → has s ≡ none → f ≡ marked (has s) v f
  marked_none s v f e = fun_ext (λ x. sym (ap (λ b. cond b (Some v) (f x)) (ap (λ t. t x) e ∙ none_at x)))

  pub overlaid_outside : (m : SlotMap X) (f : ℕ → Option X) (x : ℕ) → 64 ≤ x → overlaid (at m) f x ≡ f x
  overlaid_outside m f x l = ap (λ o. option_or o (f x)) (at_outside m x l)

pub gone_outside : (m : SlotMap ℕ) (n x : ℕ) → 64 ≤ x → up_to_gone n (at m x) ≡ at m x
gone_outside m n x l = ap (up_to_gone n) (at_outside m x l) ∙ sym (at_outside m x l)
