-- Committing the pending change of a session: among the accepted changes, and in the store. Assumes nothing.
use Rattle.std.proofs.Common.{◌≡◌, ℕ, zero, suc, ◌<◌, true, false, cond, not, ◌&&◌, ltb, List, [], ◌∷◌, map, length, is_some, Some, None, Option, sym, refl, ap, ◌∙◌, arith, length-set}
use Rattle.std.specs.List.{slice_get, AllByRecursion}
use Rattle.std.proofs.lemmas.Bool.{eqb-true, and_parts}
use Rattle.rule.specs.declared.Rule.{Rule}
use Rattle.store.specs.declared.Entry.{Entry}
use Rattle.store.specs.declared.Entry.TheVariants.{Intact}
use Rattle.store.specs.Entries.{answer_at, put_into}
use Rattle.law.specs.Operations.{latest, touched}
use Rattle.law.specs.Changes.{Change, pending as is_pending_change}
use Rattle.law.specs.Orders.{Pairwise}
use Rattle.law.specs.Accounts.{pending_of, commit_at, replaced_by}
use Rattle.law.proofs.Runs.{AllRight, held_after, right_local, over}
use Rattle.law.proofs.Lists.{all_weaker, slice_get-set, inside}
use Rattle.std.proofs.lemmas.Bool.Decides.{nat_tests}
use Rattle.calls.specs.State.{Work, Queued}
use Rattle.calls.proofs.Tools.{same_test}
use Rattle.calls.proofs.Invariant.{has_pending, ChangeOk, Between, Matches}
use Rattle.store.specs.Slots.{put_where_got}
use Rattle.calls.specs.Checks.{refused_get}
use Rattle.calls.specs.Effects.{own_pending, puts}

-- the rules staged for a session are the latest writings of its pending change
abbrev pub Mine : ℕ → (ℕ → Option Rule) → Change Rule → Type 0
Mine s staged c = pending_of s c ≡ true → (x : ℕ) → staged x ≡ latest c.ops x

pub all_mine : (n : ℕ) (works : ℕ → Work) (s : ℕ) (cs : List (Change Rule)) → AllByRecursion (ChangeOk n works) cs → AllByRecursion (Mine s (works s).staged) cs
all_mine n works s cs alls =
    all_weaker (ChangeOk n works) (Mine s (works s).staged)
    (λ c ok p x. let parts = and_parts (is_pending_change c) _ p in ap (λ z. (works z).staged x) (sym (eqb-true _ _ parts.1))
    ∙ (ok.mine parts.0).1 x) cs alls

module _ (s : ℕ) (staged : ℕ → Option Rule) where
  -- a change behind the pending one touches nothing that it writes
  pub clear_of : (c : Change Rule) (cs : List (Change Rule)) → AllByRecursion (λ b. Between b c) cs → AllByRecursion (Mine s staged) cs → has_pending s cs ≡ true → (x : ℕ)
      → is_some (staged x) ≡ true → touched c.ops x ≡ false
  clear_of c [] between mine has x w = cc
  clear_of c (b ∷ cs) between mine has x w =
      let rest = clear_of c cs between.1 mine.1 in grind (arith, between.0.clear, mine.0, rest)

  -- what the slots hold once it is committed
  pub commit_holds : (m : ℕ → Option Entry) (p : ℕ) (cs : List (Change Rule)) → Pairwise Between cs → AllByRecursion (Mine s staged) cs → (x : ℕ)
      → held_after Intact m (map (commit_at s p) cs) x ≡ over Intact (cond (has_pending s cs) (staged x) None) (held_after Intact m cs x)
  commit_holds m p [] chain mine x = refl
  commit_holds m p (c ∷ cs) chain mine x =
      let rest = commit_holds m p cs chain.1 mine.1 x in
      let clear = clear_of c cs chain.0 mine.1 in grind (arith, mine.0, clear)

  pub commit_right : (m : ℕ → Option Entry) (p : ℕ) (cs : List (Change Rule)) → Pairwise Between cs → AllByRecursion (Mine s staged) cs → AllRight Intact m cs
      → AllRight Intact m (map (commit_at s p) cs)
  commit_right m p [] chain mine right = tt
  commit_right m p (c ∷ cs) chain mine right = (
    right_local Intact (held_after Intact m cs) (held_after Intact m (map (commit_at s p) cs)) c.ops
        (λ x t. grind (arith, commit_holds m p cs chain.1 mine.1 x, clear_of c cs chain.0 mine.1)) right.0,
    commit_right m p cs chain.1 mine.1 right.1,
  )

  -- the slots replaced are those for which a rule is staged
  pub replaced_is : (cs : List (Change Rule)) → AllByRecursion (Mine s staged) cs → has_pending s cs ≡ true → (x : ℕ) → replaced_by s cs x ≡ is_some (staged x)
  replaced_is cs mine has x = same_test _ _ (replaced_written cs mine x) (written_replaced cs mine has x)
    where
      replaced_written : (cs : List (Change Rule)) → AllByRecursion (Mine s staged) cs → (x : ℕ) → replaced_by s cs x ≡ true → is_some (staged x) ≡ true
      replaced_written [] mine x e = cc
      replaced_written (c ∷ cs) mine x e = grind (arith, mine.0, replaced_written cs mine.1)

      written_replaced : (cs : List (Change Rule)) → AllByRecursion (Mine s staged) cs → has_pending s cs ≡ true → (x : ℕ) → is_some (staged x) ≡ true
          → replaced_by s cs x ≡ true
      written_replaced [] mine has x e = cc
      written_replaced (c ∷ cs) mine has x e = grind (arith, mine.0, written_replaced cs mine.1)

-- two pending changes write nothing in common
pub two_pending : (s t : ℕ) (f g : ℕ → Option Rule) → (t ≡ s → ⊥) → (cs : List (Change Rule)) → Pairwise Between cs → AllByRecursion (Mine s f) cs
    → AllByRecursion (Mine t g) cs → has_pending s cs ≡ true → has_pending t cs ≡ true
    → (x : ℕ) → is_some (f x) ≡ true → is_some (g x) ≡ true → ⊥
two_pending s t f g ne [] chain ms mt hs ht x p q = cc
two_pending s t f g ne (c ∷ cs) chain ms mt hs ht x p q =
    grind (arith, nat_tests, ms.0, mt.0, clear_of t g c cs chain.0 mt.1, clear_of s f c cs chain.0 ms.1, two_pending s t f g ne cs chain.1 ms.1 mt.1)

-- the pending change of another session stays
pub commit_has : (s t p : ℕ) → (t ≡ s → ⊥) → (cs : List (Change Rule)) → has_pending t cs ≡ true → has_pending t (map (commit_at s p) cs) ≡ true
commit_has s t p ne [] h = h
commit_has s t p ne (c ∷ cs) h = let rest = commit_has s t p ne cs in grind (arith, nat_tests)

-- what is pending afterwards was pending before, and of another session
pub still_pending : (s p : ℕ) (c : Change Rule) → is_pending_change (commit_at s p c) ≡ true → (is_pending_change c ≡ true) × (pending_of s c ≡ false)
still_pending s p c e = (grind arith, grind arith)

pub not_pending_still : (s p : ℕ) (c : Change Rule) → is_pending_change c ≡ false → is_pending_change (commit_at s p c) ≡ false
not_pending_still s p c e = grind arith

-- the queue's entry and the change are committed together
pub finished_waits : (s p : ℕ) (c : Change Rule) (q : Queued) → Matches c q
    → (q.pending && not (own_pending s q)) ≡ is_pending_change (commit_at s p c)
finished_waits s p c q m = grind (arith, nat_tests, m.waits, m.session)

-- The store.

-- each slot for which a rule is staged holds a rule
abbrev pub Sound : (ℕ → Option Rule) → List Entry → Type 0
Sound staged l = (x : ℕ) → is_some (staged x) ≡ true → (r : Rule) × (slice_get l x ≡ Some (Intact r))

pub puts_at : (n : ℕ) (staged : ℕ → Option Rule) (l : List Entry) → Sound staged l → (x : ℕ)
    → slice_get (puts n staged l) x ≡ over Intact (cond (ltb x n) (staged x) None) (slice_get l x)
puts_at zero staged l sound x = grind (arith, nat_tests)
puts_at (suc n) staged l sound x = go (λ y. puts_at n staged l sound y) (staged n) refl
  where
    go : ((y : ℕ) → slice_get (puts n staged l) y ≡ over Intact (cond (ltb y n) (staged y) None) (slice_get l y)) → (o : Option Rule) → staged n ≡ o
        → slice_get (elim o [ Some r ↦ put_into (puts n staged l) n r | None ↦ puts n staged l ]) x
        ≡ over Intact (cond (ltb x (suc n)) (staged x) None) (slice_get l x)
    go rest None e = grind (arith, nat_tests, rest x)
    go rest (Some r) e =
        let there = sound n (ap is_some e) in
        let at_n : slice_get (puts n staged l) n ≡ Some (Intact there.0) = grind (arith, nat_tests, rest n, there.1) in
        let lt : n < length (puts n staged l) = inside (puts n staged l) n (ap is_some at_n) in
        ap (λ k. slice_get k x) (put_where_got (puts n staged l) n r there.0 (ap (λ o. answer_at o n) at_n))
        ∙ slice_get-set (puts n staged l) n x (Intact r) lt
        ∙ grind (arith, nat_tests, rest x)

pub length_puts : (n : ℕ) (staged : ℕ → Option Rule) (l : List Entry) → length (puts n staged l) ≡ length l
length_puts zero staged l = refl
length_puts (suc n) staged l = let same = length_puts n staged l in grind (arith, length-set {A = Entry})

-- the store refuses none of these
pub none_refused : (n : ℕ) (staged : ℕ → Option Rule) (l : List Entry) → Sound staged l → refused_get n staged l ≡ None
none_refused zero staged l sound = refl
none_refused (suc n) staged l sound = let rest = none_refused n staged l sound in grind (arith, sound n)
