-- A truncation keeps the invariant: an entry that leaves was committed, and is not after the threshold. Assumes nothing.
use Rattle.std.proofs.Common.{◌≡◌, Bool, true, false, not, ◌⊎◌, List, [], ◌∷◌, Some, filter, Option, sym, ap, ◌∙◌, inl, inr, ⊎_elim, arith}
use Rattle.std.proofs.lemmas.Bool.{cond_both, or_parts}
use Rattle.rule.specs.declared.Rule.{Rule}
use Rattle.store.specs.declared.Entry.{Entry}
use Rattle.law.specs.Changes.{Key, earlier, pending as is_pending_change}
use Rattle.law.specs.Accounts.{Account, passes}
use Rattle.law.specs.Accounts.{after as then}
use Rattle.law.proofs.Places.{places_kept}
use Rattle.law.proofs.Lists.{all_weaker}
use Rattle.std.proofs.lemmas.Bool.Decides.{nat_tests}
use Rattle.calls.specs.State.{State}
use Rattle.calls.proofs.Tools.{Any}
use Rattle.calls.proofs.Invariant.{Matches, Known, Inv}
use Rattle.calls.specs.Words.{truncate}
use Rattle.calls.specs.Checks.{not_after}
use Rattle.calls.specs.Effects.{effect, later, stays, queue_after}

later_keeps : (o : Option Key) (k l : Key) → not_after o l ≡ true → not (earlier (later o k) l) ≡ true
later_keeps o k l e = grind (arith, nat_tests)

module _ {X : Type 0} (P : X → Type 0) (C : Type 0) (test : X → Bool) (left : (x : X) → P x → test x ≡ false → C) where
  any_left : (xs : List X) → Any P xs → C ⊎ Any P (filter test xs)
  any_left [] h = absurd h
  any_left (x ∷ xs) (inl p) = cond_both (test x) (x ∷ filter test xs) (filter test xs) (λ l. C ⊎ Any P l) (λ _. inr (inl p)) (λ e. inl (left x p e))
  any_left (x ∷ xs) (inr h) =
      cond_both (test x) (x ∷ filter test xs) (filter test xs) (λ l. C ⊎ Any P l) (λ _. ⊎_elim (λ c. inl c) (λ k. inr (inr k)) (any_left xs h))
      (λ _. any_left xs h)

pub truncate_ok : (first : List Entry) (b : State) (a : Account Rule) (k : Key) → Inv first b a → Inv first (effect b (truncate k)) (then passes a)
truncate_ok first b a k inv = record {
  settled = record {
    size = inv.size;
    chain = inv.chain;
    right = inv.right;
    holds = inv.holds;
    known = all_weaker (Known b.queue b.threshold) (Known (queue_after b k) (Some (later b.threshold k)))
        (λ c. ⊎_elim (λ f. inl (f.0, later_keeps b.threshold k c.key f.1))
        (λ h. any_left (Matches c) ((is_pending_change c ≡ false) × (not (earlier (later b.threshold k) c.key) ≡ true))
        (stays (later b.threshold k))
        (λ q m e. let parts = or_parts q.pending (earlier (later b.threshold k) q.key) e in
        (sym m.waits ∙ parts.0, ap (λ z. not (earlier (later b.threshold k) z)) (sym m.key) ∙ ap not parts.1))
        b.queue h))
        a.accepted inv.known;
  };
  changes = inv.changes;
  desks = inv.desks;
  works = inv.works;
  places = places_kept passes a inv.places;
}
