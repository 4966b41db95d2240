-- What is kept of the queue and counted in it, by what its entries mean. Assumes nothing.
use Rattle.std.proofs.Common.{◌≡◌, ℕ, suc, ◌+◌, ◌<◌, ◌≤◌, Bool, true, false, cond, List, [], ◌∷◌, ◌++◌, map, length, get_or, take, drop, set, filter, refl, sym, ap, ◌∙◌, arith}
use Rattle.std.specs.List.{count_by}
use Rattle.std.specs.List.Retain.{IsFiltered}
use Rattle.std.proofs.lemmas.List.{map-set, get_or-map, at_drop_more, at_drop_all}
use Rattle.std.proofs.lemmas.List.Edits.{map_over_more}
use Rattle.std.proofs.lemmas.Fn.{filter_same}
use Rattle.std.proofs.lemmas.List.Recursion.{is_count_by}
use Rattle.calls.specs.State.{Queued}
use Rattle.calls.specs.Checks.{owed}
use Rattle.queue.specs.Entries.{owing}

module _ {X Y : Type 0} (v : X → Y) (t : Y → Bool) where
  kept_cond : (b : Bool) (x : X) (xs : List X) (ys : List Y) → map v xs ≡ ys → map v (cond b (x ∷ xs) xs) ≡ cond b (v x ∷ ys) ys
  kept_cond true x xs ys e = ap (λ l. v x ∷ l) e
  kept_cond false x xs ys e = e

  -- what is kept, by what it means
  pub kept_view : (xs : List X) → map v (filter (λ x. t (v x)) xs) ≡ filter t (map v xs)
  kept_view [] = refl
  kept_view (x ∷ xs) = kept_cond (t (v x)) x (filter (λ x. t (v x)) xs) (filter t (map v xs)) (kept_view xs)

  -- what `retain` leaves, by what it means
  pub retained : {F : Type 0} (R : F → X → Bool → F → Type 0) (f : F) → ((x : X) (b : Bool) (f' : F) → R f x b f' → (b ≡ t (v x)) × (f' ≡ f)) → (xs ys : List X) → IsFiltered R f xs ys → map v ys ≡ filter t (map v xs)
  retained R f h xs ys k = ap (map v) (filter_same R (λ x. t (v x)) f h xs ys k) ∙ kept_view xs

module _ {X : Type 0} (v : X → Queued) (n : ℕ) where
  -- how many owe, counted
  pub owed_counted : (k : ℕ) (xs : List X) → k ≡ count_by (λ x. owing n (v x)) xs → k ≡ owed n (map v xs)
  owed_counted k xs e = e ∙ sym (is_count_by (λ xs. owed n (map v xs)) (λ x. owing n (v x)) refl (λ x xs. one_more (owing n (v x)) (owed n (map v xs))) xs) where
    one_more : (b : Bool) (m : ℕ) → cond b (suc m) m ≡ cond b (1 + m) m
    one_more b m = ap (λ k. cond b k m) (omega arith)

  -- from the place i on, and from the next one
  pub owed_more_yes : (xs : List X) (i : ℕ) (x : X) → i < length xs → x ≡ get_or xs i x → owing n (v x) ≡ true → owed n (map v (drop i xs)) ≡ suc (owed n (map v (drop (i + 1) xs)))
  owed_more_yes xs i x l is e =
      at_drop_more (λ ys. owed n (map v ys)) xs i x l
      ∙ ap (λ b. cond b (suc (owed n (map v (drop (i + 1) xs)))) (owed n (map v (drop (i + 1) xs)))) (ap (λ y. owing n (v y)) (sym is) ∙ e)

  pub owed_more_no : (xs : List X) (i : ℕ) (x : X) → i < length xs → x ≡ get_or xs i x → owing n (v x) ≡ false → owed n (map v (drop i xs)) ≡ owed n (map v (drop (i + 1) xs))
  owed_more_no xs i x l is e =
      at_drop_more (λ ys. owed n (map v ys)) xs i x l
      ∙ ap (λ b. cond b (suc (owed n (map v (drop (i + 1) xs)))) (owed n (map v (drop (i + 1) xs)))) (ap (λ y. owing n (v y)) (sym is) ∙ e)

  pub owed_all : (xs : List X) (i : ℕ) → length xs ≤ i → owed n (map v (drop i xs)) ≡ 0
  owed_all xs i l = at_drop_all (λ ys. owed n (map v ys)) xs i l

module _ {X Y : Type 0} (v : X → Y) (f : Y → Y) where
  -- one more is changed in its place
  pub changed_more : (xs : List X) (ys : List Y) (i : ℕ) (x d : X) → i < length xs → length xs ≡ length ys → map v xs ≡ map f (take i ys) ++ drop i ys → v x ≡ f (v (get_or xs i d)) → map v (set xs i x) ≡ map f (take (i + 1) ys) ++ drop (i + 1) ys
  changed_more xs ys i x d lt long e is =
      map-set v xs i x ∙ ap (set (map v xs) i) is ∙ map_over_more f ys (map v xs) i (v (get_or xs i d)) (omega arith) e (sym (get_or-map v xs i d (v (get_or xs i d)) lt))
