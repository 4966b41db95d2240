-- Facts of places, true of the account of every history: what is noted was noted before now, and a change begins before it is accepted and
-- is accepted before it is committed. Assumes nothing.
use Rattle.std.proofs.Common.{◌≡◌, ℕ, suc, ◌<◌, ◌≤◌, Bool, cond, not, eqb, List, [], ◌∷◌, map, is_some, Some, None, Option, refl, ap, arith}
use Rattle.std.specs.Option.{option_map}
use Rattle.std.specs.List.{AllByRecursion}
use Rattle.std.proofs.lemmas.Bool.{cond_both}
use Rattle.law.specs.Operations.{Operation, reading, writing}
use Rattle.law.specs.Changes.{Key, Change, committed_of}
use Rattle.law.specs.Orders.{Pairwise}
use Rattle.law.specs.Accounts.{
  accepted,
  stale,
  withheld,
  Step,
  begins,
  takes,
  reads,
  writes,
  forwards,
  commits,
  strikes,
  passes,
  Draft,
  Replacing,
  Account,
  changed,
  with_operation,
  joined_by,
  pending_of,
  commit_at,
  replaced_by,
  after,
  nothing_yet,
  account,
}
use Rattle.law.specs.Law.{CommittedBefore, EarlierFirst}
use Rattle.law.proofs.Lists.{all_weaker, all_kept, all_map, pairs_kept}

-- the former of two accepted changes began before the latter was committed
abbrev pub BeganFirst : {R : Type 0} → Change R → Change R → Type 0
BeganFirst b c = (p : ℕ) → c.committed ≡ Some p → b.began ≤ p

-- what an account notes lies before the place n
pub record NotedBefore {R : Type 0} (n : ℕ) (a : Account R) : Type 0 where
  pub logged : AllByRecursion (λ (e : Replacing). e.place < n) a.replacings
  pub took : (s x p : ℕ) → a.taken s x ≡ Some p → p < n
  pub drafted : (s : ℕ) (d : Draft R) → a.drafts s ≡ Some d → d.began < n
  pub begun : AllByRecursion (λ (c : Change R). c.began < n) a.accepted
  pub ordered : Pairwise BeganFirst a.accepted

abbrev pub Places : {R : Type 0} → Account R → Type 0
Places a = NotedBefore a.place a

module _ {R : Type 0} where
  -- and so before the next
  later : (n : ℕ) (a : Account R) → NotedBefore n a → NotedBefore (suc n) a
  later n a old = record {
    logged = all_weaker (λ (e : Replacing). e.place < n) (λ (e : Replacing). e.place < suc n) (λ e lt. omega arith) a.replacings old.logged;
    took = λ s x p e. let h = old.took s x p e in omega arith;
    drafted = λ s d e. let h = old.drafted s d e in omega arith;
    begun = all_weaker (λ (c : Change R). c.began < n) (λ (c : Change R). c.began < suc n) (λ c lt. omega arith) a.accepted old.begun;
    ordered = old.ordered;
  }

  -- a draft gets one more operation
  written : (n : ℕ) (o : Operation R) (old : Option (Draft R)) → ((d : Draft R) → old ≡ Some d → d.began < n) → (d : Draft R)
      → option_map (with_operation o) old ≡ Some d → d.began < n
  written n o None f d e = cc
  written n o (Some b) f d e = let h = f b refl in let same : with_operation o b ≡ d = cc in let began = ap (λ (x : Draft R). x.began) same in omega arith

  module _ (a : Account R) (now : NotedBefore (suc a.place) a) where
    passed : Places (after passes a)
    passed = record { logged = now.logged; took = now.took; drafted = now.drafted; begun = now.begun; ordered = now.ordered }

    -- one session's draft is replaced
    redrafted : (s : ℕ) (f : Option (Draft R) → Option (Draft R)) → ((t : ℕ) (d : Draft R) → f (a.drafts t) ≡ Some d → d.began < suc a.place)
        → (t : ℕ) (d : Draft R) → changed s f a.drafts t ≡ Some d → d.began < suc a.place
    redrafted s f own t d =
        cond_both (eqb t s) (f (a.drafts t)) (a.drafts t) (λ v. v ≡ Some d → d.began < suc a.place) (λ _ e. own t d e) (λ _ e. now.drafted t d e)

    more_written : (s : ℕ) (o : Operation R) (t : ℕ) (d : Draft R) → changed s (option_map (with_operation o)) a.drafts t ≡ Some d
        → d.began < suc a.place
    more_written s o = redrafted s (option_map (with_operation o)) (λ t d e. written (suc a.place) o (a.drafts t) (now.drafted t) d e)

    none_written : (s t : ℕ) (d : Draft R) → changed s (λ _. None) a.drafts t ≡ Some d → d.began < suc a.place
    none_written s = redrafted s (λ _. None) (λ t d e. cc)

    -- some slots of a session are taken now
    taken_now : (slots : ℕ → Bool) (s t x p : ℕ) → changed s (λ (f : ℕ → Option ℕ) x. cond (slots x) (Some a.place) (f x)) a.taken t x ≡ Some p
        → p < suc a.place
    taken_now slots s t x p =
        cond_both (eqb t s) (λ (x : ℕ). cond (slots x) (Some a.place) (a.taken t x)) (a.taken t) (λ f. f x ≡ Some p → p < suc a.place)
        (λ _. cond_both (slots x) (Some a.place) (a.taken t x) (λ v. v ≡ Some p → p < suc a.place)
        (λ _ e. let same : a.place ≡ p = cc in omega arith) (λ _ e. now.took t x p e))
        (λ _ e. now.took t x p e)

  module _ (a : Account R) (places : Places a) where
    pub pause : Places (after passes a)
    pause = passed a (later a.place a places)

    joined_begun : (s : ℕ) (k : Key) (o : Option (Draft R)) → ((d : Draft R) → o ≡ Some d → d.began < a.place)
        → AllByRecursion (λ (c : Change R). c.began < suc a.place) (joined_by a.accepted s k o)
    joined_begun s k None f = (later a.place a places).begun
    joined_begun s k (Some d) f = (let h = f d refl in omega arith, (later a.place a places).begun)

    joined_ordered : (s : ℕ) (k : Key) (o : Option (Draft R)) → Pairwise BeganFirst (joined_by a.accepted s k o)
    joined_ordered s k None = places.ordered
    joined_ordered s k (Some d) = (
      all_weaker (λ (c : Change R). c.began < a.place) (λ (c : Change R). (p : ℕ) → None ≡ Some p → c.began ≤ p) (λ c _ p e. cc) a.accepted
          places.begun,
      places.ordered,
    )

    -- committing at this place
    commit_ordered : (s : ℕ) (cs : List (Change R)) → AllByRecursion (λ (c : Change R). c.began < a.place) cs → Pairwise BeganFirst cs
        → Pairwise BeganFirst (map (commit_at s a.place) cs)
    commit_ordered s [] begun pairs = tt
    commit_ordered s (c ∷ cs) begun pairs = (go cs begun.1 pairs.0, commit_ordered s cs begun.1 pairs.1)
      where
        go : (bs : List (Change R)) → AllByRecursion (λ (b : Change R). b.began < a.place) bs → AllByRecursion (λ b. BeganFirst b c) bs
            → AllByRecursion (λ b. BeganFirst b (commit_at s a.place c)) (map (commit_at s a.place) bs)
        go [] x y = tt
        go (b ∷ bs) x y = (
          λ p. cond_both (pending_of s c) (Some a.place) c.committed (λ v. v ≡ Some p → b.began ≤ p)
              (λ _ e. let same : a.place ≡ p = cc in let lt = x.0 in omega arith) (λ _ e. y.0 p e),
          go bs x.1 y.1,
        )

  pub places_kept : (e : Step R) (a : Account R) → Places a → Places (after e a)
  places_kept e a places = go e (later a.place a places)
    where
      go : (e : Step R) → NotedBefore (suc a.place) a → Places (after e a)
      go (begins s) now = record {
        logged = now.logged;
        took = now.took;
        drafted = redrafted a now s (λ _. Some (record { began = a.place; ops = [] }))
            (λ t d e. let same : record { began = a.place; ops = [] } ≡ d = cc in let began = ap (λ (x : Draft R). x.began) same in omega arith);
        begun = now.begun;
        ordered = now.ordered;
      }
      go (takes s x) now = record {
        logged = now.logged;
        took = taken_now a now (λ y. eqb y x) s;
        drafted = now.drafted;
        begun = now.begun;
        ordered = now.ordered;
      }
      go (reads s x r) now = record {
        logged = now.logged;
        took = now.took;
        drafted = more_written a now s (reading x r);
        begun = now.begun;
        ordered = now.ordered;
      }
      go (writes s x r) now = record {
        logged = now.logged;
        took = now.took;
        drafted = more_written a now s (writing x r);
        begun = now.begun;
        ordered = now.ordered;
      }
      go (forwards s k accepted) now = record {
        logged = now.logged;
        took = now.took;
        drafted = none_written a now s;
        begun = joined_begun a places s k (a.drafts s) (places.drafted s);
        ordered = joined_ordered a places s k (a.drafts s);
      }
      go (forwards s k (stale x)) now = passed a now
      go (forwards s k withheld) now = passed a now
      go (commits s) now = record {
        logged = (omega arith, now.logged);
        took = taken_now a now (replaced_by s a.accepted) s;
        drafted = now.drafted;
        begun = all_map (λ (c : Change R). c.began < suc a.place) (λ (c : Change R). c.began < suc a.place) (commit_at s a.place) (λ c lt. lt)
            a.accepted now.begun;
        ordered = commit_ordered a places s a.accepted places.begun places.ordered;
      }
      go (strikes s) now = record {
        logged = now.logged;
        took = now.took;
        drafted = none_written a now s;
        begun = all_kept (λ (c : Change R). c.began < suc a.place) (λ (c : Change R). c.began < suc a.place) (λ c. not (pending_of s c))
            (λ c _ lt. lt) a.accepted now.begun;
        ordered = pairs_kept BeganFirst BeganFirst (λ b c first. first) (λ c. not (pending_of s c)) a.accepted now.ordered;
      }
      go passes now = passed a now

  pub no_places : Places {R = R} nothing_yet
  no_places = record { logged = tt; took = λ s x p e. cc; drafted = λ s d e. cc; begun = tt; ordered = tt }

  -- they hold of every history
  pub places_of : (h : List (Step R)) → Places (account h)
  places_of [] = no_places
  places_of (e ∷ h) = places_kept e (account h) (places_of h)

  -- so a change that was committed before another began stands before it
  pub earlier_first : (a : Account R) → Places a → EarlierFirst (committed_of a.accepted)
  earlier_first a places = pairs_kept BeganFirst (λ b c. CommittedBefore c b → ⊥)
      (λ b c first w. let h = first w.0 w.1 in let lt = w.2 in omega arith) (λ c. is_some c.committed) a.accepted places.ordered
