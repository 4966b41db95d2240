-- The first of a list that passes a test, by what its entries mean. Assumes nothing.
use Rattle.std.proofs.Common.{◌≡◌, ℕ, suc, ◌+◌, ◌<◌, ◌≤◌, Bool, true, false, cond, not, ltb, List, [], ◌∷◌, map, length, get_or, drop, Some, None, sym, refl, ap, ◌∙◌, arith}
use Rattle.std.specs.Option.{option_map}
use Rattle.std.specs.List.{position}
use Rattle.std.proofs.lemmas.Bool.Decides.{nat_tests}
use Rattle.std.proofs.lemmas.List.{at_drop_more, at_drop_all}
use Rattle.calls.specs.Sets.{first_place}

-- one entry more in front
found_more : (b : Bool) (i n : ℕ) → cond (ltb (cond (not b) (1 + i) 0) (suc n)) (Some (cond (not b) (1 + i) 0)) None ≡ cond b (Some 0) (option_map suc (cond (ltb i n) (Some i) None))
found_more b i n = grind (arith, nat_tests)

module _ {X Y : Type 0} (v : X → Y) (t : Y → Bool) where
  -- the place, as the library finds it
  pub place_found : (xs : List X) → position (λ x. t (v x)) xs ≡ first_place t (map v xs)
  place_found [] = refl
  place_found (x ∷ xs) = found_more (t (v x)) _ (length xs) ∙ ap (λ o. cond (t (v x)) (Some 0) (option_map suc o)) (place_found xs)

-- the place from i on, counted from i
module _ {X : Type 0} (t : X → Bool) where
  pub first_all : (xs : List X) (i : ℕ) → length xs ≤ i → position t (drop i xs) ≡ None
  first_all xs i l = at_drop_all (position t) xs i l

  one_more : (xs : List X) (i : ℕ) (x : X) → i < length xs → x ≡ get_or xs i x → position t (drop i xs) ≡ cond (t x) (Some 0) (option_map suc (position t (drop (i + 1) xs)))
  one_more xs i x l is =
      at_drop_more (position t) xs i x l ∙ ap (λ y. position t (y ∷ drop (i + 1) xs)) (sym is) ∙ found_more (t x) _ (length (drop (i + 1) xs))

  pub first_found : (xs : List X) (i : ℕ) (x : X) → i < length xs → x ≡ get_or xs i x → t x ≡ true → position t (drop i xs) ≡ Some 0
  first_found xs i x l is e = one_more xs i x l is ∙ ap (λ b. cond b (Some 0) (option_map suc (position t (drop (i + 1) xs)))) e

  pub first_more : (xs : List X) (i : ℕ) (x : X) → i < length xs → x ≡ get_or xs i x → t x ≡ false → position t (drop i xs) ≡ option_map suc (position t (drop (i + 1) xs))
  first_more xs i x l is e = one_more xs i x l is ∙ ap (λ b. cond b (Some 0) (option_map suc (position t (drop (i + 1) xs)))) e
