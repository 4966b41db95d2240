-- What holds of each element, or of every two, of a list that is filtered or mapped, and what a list holds in a slot. Assumes nothing.
use Rattle.std.proofs.Common.{◌≡◌, ℕ, suc, ◌<◌, Bool, true, cond, eqb, List, [], ◌∷◌, map, length, set, is_some, Some, filter, refl, arith}
use Rattle.std.specs.List.{slice_get, AllByRecursion}
use Rattle.std.proofs.lemmas.Bool.{cond_both}
use Rattle.std.proofs.lemmas.Bool.Decides.{nat_tests}
use Rattle.std.proofs.lemmas.Grind.{common_steps}
use Rattle.std.proofs.lemmas.Option.{gets}
use Rattle.law.specs.Orders.{Pairwise}

module _ {X : Type 0} (P Q : X → Type 0) where
  pub all_weaker : ((x : X) → P x → Q x) → (xs : List X) → AllByRecursion P xs → AllByRecursion Q xs
  all_weaker f [] alls = tt
  all_weaker f (x ∷ xs) alls = (f x alls.0, all_weaker f xs alls.1)

  pub all_kept : (test : X → Bool) → ((x : X) → test x ≡ true → P x → Q x) → (xs : List X) → AllByRecursion P xs → AllByRecursion Q (filter test xs)
  all_kept test f [] alls = tt
  all_kept test f (x ∷ xs) alls =
      cond_both (test x) (x ∷ filter test xs) (filter test xs) (AllByRecursion Q) (λ t. (f x t alls.0, all_kept test f xs alls.1))
      (λ _. all_kept test f xs alls.1)

module _ {X Y : Type 0} (P : X → Type 0) (Q : Y → Type 0) (f : X → Y) (kept : (x : X) → P x → Q (f x)) where
  pub all_map : (xs : List X) → AllByRecursion P xs → AllByRecursion Q (map f xs)
  all_map [] alls = tt
  all_map (x ∷ xs) alls = (kept x alls.0, all_map xs alls.1)

module _ {X : Type 0} (B C : X → X → Type 0) (weaker : (b c : X) → B b c → C b c) (test : X → Bool) where
  pub pairs_kept : (xs : List X) → Pairwise B xs → Pairwise C (filter test xs)
  pairs_kept [] pairs = tt
  pairs_kept (x ∷ xs) pairs =
      cond_both (test x) (x ∷ filter test xs) (filter test xs) (Pairwise C)
      (λ _. (all_kept (λ b. B b x) (λ b. C b x) test (λ b _ p. weaker b x p) xs pairs.0, pairs_kept xs pairs.1)) (λ _. pairs_kept xs pairs.1)

module _ {X Y : Type 0} (B : X → X → Type 0) (C : Y → Y → Type 0) (f : X → Y) (kept : (b c : X) → B b c → C (f b) (f c)) where
  pub pairs_map : (xs : List X) → Pairwise B xs → Pairwise C (map f xs)
  pairs_map [] pairs = tt
  pairs_map (x ∷ xs) pairs = (all_map (λ b. B b x) (λ b. C b (f x)) f (λ b. kept b x) xs pairs.0, pairs_map xs pairs.1)

module _ {X : Type 0} (B C : X → X → Type 0) (kept : (b c : X) → B b c → C b c) where
  pub pairs_weaker : (xs : List X) → Pairwise B xs → Pairwise C xs
  pairs_weaker [] pairs = tt
  pairs_weaker (x ∷ xs) pairs = (all_weaker (λ b. B b x) (λ b. C b x) (λ b. kept b x) xs pairs.0, pairs_weaker xs pairs.1)

module _ {X : Type 0} where
  pub slice_get-set_other : (l : List X) (x y : ℕ) (e : X) → (x ≡ y → ⊥) → slice_get (set l y e) x ≡ slice_get l x
  slice_get-set_other l x y e ne = grind (arith, common_steps, gets)

  pub slice_get-set : (l : List X) (x y : ℕ) (e : X) → x < length l → slice_get (set l x e) y ≡ cond (eqb y x) (Some e) (slice_get l y)
  slice_get-set l x y e lt = grind (arith, common_steps, gets, nat_tests)

  -- a slot that holds something is inside
  pub inside : (l : List X) (x : ℕ) → is_some (slice_get l x) ≡ true → x < length l
  inside l x e = grind (arith, common_steps, gets)

  -- two lists that hold the same in each slot are one
  pub same_entries : (l k : List X) → ((x : ℕ) → slice_get l x ≡ slice_get k x) → l ≡ k
  same_entries [] [] same = refl
  same_entries [] (b ∷ k) same = let h = same 0 in cc
  same_entries (a ∷ l) [] same = let h = same 0 in cc
  same_entries (a ∷ l) (b ∷ k) same = let h : Some a ≡ Some b = same 0 in let t = same_entries l k (λ x. same (suc x)) in cc

-- a slot inside holds something
pub filled : {X : Type 0} (l : List X) (x : ℕ) → x < length l → is_some (slice_get l x) ≡ true
filled l x lt = grind (arith, common_steps, gets)
