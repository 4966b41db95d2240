-- Small tools: cases on a session's number, options, and what it says that no check turned a call away. Assumes nothing.
use Rattle.std.proofs.Common.{◌≡◌, ℕ, zero, suc, Bool, true, false, cond, eqb, ◌⊎◌, List, [], ◌∷◌, ◌++◌, map, is_some, Some, None, filter, Option, sym, refl, ap, subst, inl, inr, arith}
use Rattle.std.specs.Option.{option_map, option_or}
use Rattle.std.specs.List.{AllByRecursion}
use Rattle.std.proofs.lemmas.Bool.{eqb-true, eqb-false, eq-eqb, ne_eqb, cond_both, both_ways}
use Rattle.refusal.specs.declared.Refusal.{Refusal}
use Rattle.law.specs.Accounts.{changed}
use Rattle.calls.specs.Checks.{when, first_cause}

-- by cases on whether two numbers are one
pub by_number : (Q : Bool → Type 0) (t s : ℕ) → (t ≡ s → Q true) → ((t ≡ s → ⊥) → Q false) → Q (eqb t s)
by_number Q t s yes' no' = go (eqb t s) refl
  where
    go : (v : Bool) → eqb t s ≡ v → Q v
    go true e = yes' (eqb-true t s e)
    go false e = no' (eqb-false t s e)

-- what holds of one session, and of each other
pub each_session : (P : Bool → ℕ → Type 0) (s : ℕ) → P true s → ((t : ℕ) → (t ≡ s → ⊥) → P false t) → (t : ℕ) → P (eqb t s) t
each_session P s own other t = by_number (λ v. P v t) t s (λ e. subst (P true) (sym e) own) (other t)

-- one session is changed, and each keeps what it had
pub changed_keeps : {X : Type 0} (P : ℕ → X → Type 0) (s : ℕ) (f : X → X) (g : ℕ → X) → ((t : ℕ) → P t (g t)) → (P s (g s) → P s (f (g s))) → (t : ℕ)
    → P t (changed s f g t)
changed_keeps P s f g all' one = each_session (λ v t. P t (cond v (f (g t)) (g t))) s (one (all' s)) (λ t _. all' t)

-- a changed function, at the number and elsewhere
pub changed_here : {X : Type 0} (s : ℕ) (f : X → X) (g : ℕ → X) → changed s f g s ≡ f (g s)
changed_here s f g = ap (λ v. cond v (f (g s)) (g s)) (eq-eqb s s refl)

pub changed_there : {X : Type 0} (s : ℕ) (f : X → X) (g : ℕ → X) (t : ℕ) → (t ≡ s → ⊥) → changed s f g t ≡ g t
changed_there s f g t ne = ap (λ v. cond v (f (g t)) (g t)) (ne_eqb t s ne)

pub some_is : {X : Type 0} (o : Option X) → is_some o ≡ true → (x : X) × (o ≡ Some x)
some_is None e = cc
some_is (Some x) e = (x, refl)

pub none_is : {X : Type 0} (o : Option X) → is_some o ≡ false → o ≡ None
none_is None e = refl
none_is (Some x) e = cc

-- two tests with the same meaning are equal
pub same_test : (v w : Bool) → (v ≡ true → w ≡ true) → (w ≡ true → v ≡ true) → v ≡ w
same_test v w f g = grind arith

pub clear_head : {X : Type 0} (o p : Option X) → option_or o p ≡ None → (o ≡ None) × (p ≡ None)
clear_head None p e = (refl, e)
clear_head (Some x) p e = cc

-- the finding of the i-th check
abbrev pub finding : List (Option Refusal) → ℕ → Option Refusal
finding [] i = None
finding (c ∷ cs) zero = c
finding (c ∷ cs) (suc i) = finding cs i

-- where no check turned a call away, each found nothing
pub cleared : (cs : List (Option Refusal)) → first_cause cs ≡ None → (i : ℕ) → finding cs i ≡ None
cleared [] e i = refl
cleared (None ∷ cs) e zero = refl
cleared (None ∷ cs) e (suc i) = cleared cs e i
cleared (Some c ∷ cs) e i = cc

pub when_none : (test : Bool) (cause : Refusal) → when test cause ≡ None → test ≡ false
when_none test cause e = grind arith

pub option_map_none : {X Y : Type 0} (f : X → Y) (o : Option X) → option_map f o ≡ None → o ≡ None
option_map_none f None e = refl
option_map_none f (Some x) e = cc

-- something in a list
abbrev pub Any : {X : Type 0} → (X → Type 0) → List X → Type 0
Any P [] = ⊥
Any P (x ∷ xs) = P x ⊎ Any P xs

module _ {X : Type 0} where
  pub any_append : (P : X → Type 0) (xs ys : List X) → Any P xs → Any P (xs ++ ys)
  any_append P [] ys h = absurd h
  any_append P (x ∷ xs) ys (inl p) = inl p
  any_append P (x ∷ xs) ys (inr h) = inr (any_append P xs ys h)

  pub any_last : (P : X → Type 0) (xs : List X) (y : X) → P y → Any P (xs ++ y ∷ [])
  any_last P [] y p = inl p
  any_last P (x ∷ xs) y p = inr (any_last P xs y p)

  pub any_map : {Y : Type 0} (P : X → Type 0) (Q : Y → Type 0) (f : X → Y) → ((x : X) → P x → Q (f x)) → (xs : List X) → Any P xs → Any Q (map f xs)
  any_map P Q f g [] h = h
  any_map P Q f g (x ∷ xs) (inl p) = inl (g x p)
  any_map P Q f g (x ∷ xs) (inr h) = inr (any_map P Q f g xs h)

  pub any_kept : (P : X → Type 0) (test : X → Bool) → ((x : X) → P x → test x ≡ true) → (xs : List X) → Any P xs → Any P (filter test xs)
  any_kept P test g [] h = h
  any_kept P test g (x ∷ xs) (inl p) =
      cond_both (test x) (x ∷ filter test xs) (filter test xs) (Any P) (λ _. inl p) (λ e. absurd (both_ways (test x) e (g x p)))
  any_kept P test g (x ∷ xs) (inr h) =
      cond_both (test x) (x ∷ filter test xs) (filter test xs) (Any P) (λ _. inr (any_kept P test g xs h)) (λ _. any_kept P test g xs h)

  pub any_weaker : (P Q : X → Type 0) → ((x : X) → P x → Q x) → (xs : List X) → Any P xs → Any Q xs
  any_weaker P Q g [] h = h
  any_weaker P Q g (x ∷ xs) (inl p) = inl (g x p)
  any_weaker P Q g (x ∷ xs) (inr h) = inr (any_weaker P Q g xs h)

  -- what holds of all holds of the one
  pub all_any : {C : Type 0} (P Q : X → Type 0) → ((x : X) → P x → Q x → C) → (xs : List X) → AllByRecursion P xs → Any Q xs → C
  all_any P Q f [] alls h = absurd h
  all_any P Q f (x ∷ xs) alls (inl q) = f x alls.0 q
  all_any P Q f (x ∷ xs) alls (inr h) = all_any P Q f xs alls.1 h
