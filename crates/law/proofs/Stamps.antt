-- The order of stamps: keys are in a strict order, and sorting by them gives the one ascending order. Assumes nothing.
use Rattle.std.proofs.Common.{◌≡◌, true, false, List, [], ◌∷◌, arith}
use Rattle.std.specs.List.{AllByRecursion}
use Rattle.std.proofs.lemmas.Bool.{cond_both}
use Rattle.std.proofs.lemmas.Bool.Decides.{nat_tests}
use Rattle.law.specs.Changes.{Key, earlier, same_key, Change, Clash, Explains}
use Rattle.law.specs.Orders.{Pairwise, Insertion, here, behind, Reordering, empty, put_in, FollowsStamps, Ascending, earlier_stamp, by_stamp_into, in_stamp_order}
use Rattle.law.specs.Law.{ByStamp}
use Rattle.law.proofs.Lists.{all_weaker}
use Rattle.law.proofs.Reorder.{reordering_law, all_whole, all_reordered}

pub earlier_trans : (k l m : Key) → earlier k l ≡ true → earlier l m ≡ true → earlier k m ≡ true
earlier_trans k l m p q = grind (arith, nat_tests)

pub earlier_once : (k l : Key) → earlier k l ≡ true → earlier l k ≡ true → ⊥
earlier_once k l p q = grind (arith, nat_tests)

pub earlier_not_same : (k l : Key) → earlier k l ≡ true → same_key k l ≡ false
earlier_not_same k l p = grind (arith, nat_tests)

pub same_key_flip : (k l : Key) → same_key k l ≡ false → same_key l k ≡ false
same_key_flip k l p = grind (arith, nat_tests)

pub earlier_other_way : (k l : Key) → same_key k l ≡ false → earlier k l ≡ false → earlier l k ≡ true
earlier_other_way k l p q = grind (arith, nat_tests)

module _ {R : Type 0} where
  -- no two changes of a list have one stamp
  abbrev pub Distinct : List (Change R) → Type 0
  Distinct cs = Pairwise (λ b c. same_key b.key c.key ≡ false) cs

  pub into_inserts : (c : Change R) (ds : List (Change R)) → Insertion c ds (by_stamp_into c ds)
  into_inserts c [] = here
  into_inserts c (d ∷ ds) =
      cond_both (earlier c.key d.key) (d ∷ by_stamp_into c ds) (c ∷ d ∷ ds) (λ l. Insertion c (d ∷ ds) l) (λ _. behind (into_inserts c ds))
      (λ _. here)

  pub stamp_order_reorders : (cs : List (Change R)) → Reordering cs (in_stamp_order cs)
  stamp_order_reorders [] = empty
  stamp_order_reorders (c ∷ cs) = put_in (stamp_order_reorders cs) (into_inserts c (in_stamp_order cs))

  into_ascends : (c : Change R) (ds : List (Change R)) → AllByRecursion (λ b. same_key b.key c.key ≡ false) ds → Ascending ds
      → Ascending (by_stamp_into c ds)
  into_ascends c [] apart up = (tt, tt)
  into_ascends c (d ∷ ds) apart up =
      cond_both (earlier c.key d.key) (d ∷ by_stamp_into c ds) (c ∷ d ∷ ds) Ascending
      (λ e. (all_whole (λ b. earlier_stamp b d ≡ true) (into_inserts c ds) e up.0, into_ascends c ds apart.1 up.1))
      (λ e. let lower : earlier d.key c.key ≡ true = earlier_other_way c.key d.key (same_key_flip d.key c.key apart.0) e in (
        (
          lower,
          all_weaker (λ b. earlier_stamp b d ≡ true) (λ b. earlier_stamp b c ≡ true) (λ b p. earlier_trans b.key d.key c.key p lower) ds
              up.0,
        ),
        up,
      ))

  pub stamp_order_ascends : (cs : List (Change R)) → Distinct cs → Ascending (in_stamp_order cs)
  stamp_order_ascends [] apart = tt
  stamp_order_ascends (c ∷ cs) apart =
      into_ascends c (in_stamp_order cs) (all_reordered (λ b. same_key b.key c.key ≡ false) (stamp_order_reorders cs) apart.0)
      (stamp_order_ascends cs apart.1)

  ascending_fits : (cs : List (Change R)) → Ascending cs → FollowsStamps cs
  ascending_fits [] up = tt
  ascending_fits (c ∷ cs) up =
      (all_weaker (λ b. earlier_stamp b c ≡ true) (λ b. Clash b c → earlier_stamp b c ≡ true) (λ b p _. p) cs up.0, ascending_fits cs up.1)

-- what one order in which clashing changes follow their stamps explains, the order of stamps explains
pub sorted_explains : {R E : Type 0} (intact : R → E) (first last : List E) (cs : List (Change R)) → Distinct cs → FollowsStamps cs
    → Explains intact first cs last → ByStamp intact first last cs
sorted_explains intact first last cs apart fits run =
    let up = stamp_order_ascends cs apart in
    record {
      explains =
          reordering_law intact earlier_stamp (λ a b. earlier_once a.key b.key) first last cs (in_stamp_order cs) (stamp_order_reorders cs) fits
          (ascending_fits (in_stamp_order cs) up) run;
      ascending = up;
      all_of_them = stamp_order_reorders cs;
    }
