-- Orders of changes: reorderings, orders that fit a relation, the order of stamps. The latest stands in front. Assumes nothing.
use Rattle.std.specs.Prelude.{◌≡◌, ℕ, Bool, true, cond, List, [], ◌∷◌, Some, Option, ◌≢◌}
use Rattle.std.specs.List.{AllByRecursion}
use Rattle.law.specs.Changes.{Change, Clash, Explains, earlier}

-- `whole` is `rest` with a put in at some place
pub data Insertion {X : Type 0} (a : X) : List X → List X → Type 0 where
  here : {rest : List X} → Insertion a rest (a ∷ rest)
  behind : {b : X} {rest whole : List X} → Insertion a rest whole → Insertion a (b ∷ rest) (b ∷ whole)

-- two lists have the same members, each as often
pub data Reordering {X : Type 0} : List X → List X → Type 0 where
  empty : Reordering [] []
  put_in : {a : X} {xs ys zs : List X} → Reordering xs ys → Insertion a ys zs → Reordering (a ∷ xs) zs

-- of every two in the list, the one that stands before the other is related to it
abbrev pub Pairwise : {X : Type 0} → (X → X → Type 0) → List X → Type 0
Pairwise before [] = Unit {0}
Pairwise before (c ∷ cs) = AllByRecursion (λ b. before b c) cs × Pairwise before cs

module _ {R : Type 0} where
  -- of two clashing changes in the list, the one that stands before the other is before it in this sense
  abbrev pub Fits : (Change R → Change R → Bool) → List (Change R) → Type 0
  Fits before cs = Pairwise (λ b c. Clash b c → before b c ≡ true) cs

  -- one change has an earlier stamp than another
  abbrev pub earlier_stamp : Change R → Change R → Bool
  earlier_stamp b c = earlier b.key c.key

  -- clashing changes follow their stamps
  abbrev pub FollowsStamps : List (Change R) → Type 0
  FollowsStamps cs = Fits earlier_stamp cs

  -- each change has a later stamp than every one before it
  abbrev pub Ascending : List (Change R) → Type 0
  Ascending cs = Pairwise (λ b c. earlier_stamp b c ≡ true) cs

  -- a change put in at the place of its stamp
  abbrev pub by_stamp_into : Change R → List (Change R) → List (Change R)
  by_stamp_into c [] = c ∷ []
  by_stamp_into c (d ∷ ds) = cond (earlier c.key d.key) (d ∷ by_stamp_into c ds) (c ∷ d ∷ ds)

  -- the changes in the order of their stamps
  abbrev pub in_stamp_order : List (Change R) → List (Change R)
  in_stamp_order [] = []
  in_stamp_order (c ∷ cs) = by_stamp_into c (in_stamp_order cs)

-- the law of reordering: an order of changes that explains a list of entries, and in which clashing changes stand as `before`
-- has them, may be exchanged for every other order of the same changes in which they do. No two changes are before one another
abbrev pub ReorderingLaw : {R E : Type 0} → (R → E) → Type 0
ReorderingLaw {R} {E} intact =
    (before : Change R → Change R → Bool) → ((a b : Change R) → before a b ≡ true → before b a ≢ true)
    → (first last : List E) (xs ys : List (Change R)) → Reordering xs ys → Fits before xs → Fits before ys
    → Explains intact first xs last → Explains intact first ys last

-- the same where rules are numbers, and an entry is a number or nothing
abbrev pub ReorderingStands : Type 0
ReorderingStands = ReorderingLaw {R = ℕ} {E = Option ℕ} Some
