-- The notice number stays within 32 bits and the queue within 32 places. Assumes nothing.
use Rattle.std.proofs.Common.{◌≡◌, ℕ, suc, ◌+◌, ◌<◌, ◌≤◌, Bool, true, not, ◌&&◌, eqb, List, [], ◌∷◌, map, length, is_some, Some, None, filter, Option, sym, refl, ap, ◌∙◌, subst, ⊎_elim, arith}
use Rattle.std.specs.List.{AllByRecursion}
use Rattle.std.proofs.lemmas.Bool.{both_ways, or_cases, and_parts}
use Rattle.refusal.specs.declared.Refusal.{Refusal}
use Rattle.rule.specs.declared.Rule.{Rule}
use Rattle.store.specs.declared.Entry.{Entry}
use Rattle.law.specs.Changes.{Key, Change, pending as is_pending_change}
use Rattle.law.specs.Accounts.{Account}
use Rattle.std.proofs.lemmas.List.Filters.{length-filter_both}
use Rattle.std.proofs.lemmas.Bool.Decides.{nat_tests}
use Rattle.calls.proofs.Owed.{owed_push, owed_kept, owed_finished, owed_own, Wanting}
use Rattle.calls.specs.Sets.{lowest, any_below}
use Rattle.calls.specs.State.{pending, Queued, State}
use Rattle.calls.proofs.Tools.{some_is, cleared, when_none, Any, any_weaker}
use Rattle.calls.proofs.Sets.{lowest_some, below_any}
use Rattle.calls.proofs.Invariant.{has_pending, Matches, Known, Inv}
use Rattle.std.proofs.lemmas.List.{length_push}
use lib.ListN.{length-map}
use Rattle.law.specs.Accounts.{account}
use Rattle.calls.specs.Words.{Call, begin, fetch, read, write, drop, forward, commit, abort, learn, receipt, truncate}
use Rattle.calls.specs.Checks.{first_cause, checks, count, work_of, owed, last_number}
use Rattle.calls.specs.Effects.{effect, own_pending, finished, entry_of, replaced, number_after, stays, later}
use Rattle.calls.specs.Calls.{after_where, after}
use Rattle.calls.specs.Histories.{Event, steps, Reached, made, called, Bounds, BoundsOfReached}
use Rattle.calls.proofs.kept.Phases.{pending_is, in_phase}
use Rattle.calls.proofs.kept.Forward.{Accepted, accepted_says}
use Rattle.calls.proofs.kept.Commits.{Mine, all_mine, length_puts}
use Rattle.calls.proofs.Steps.{reached_ok}

kept_shorter : (keep : Queued → Bool) (qs : List Queued) → length (filter keep qs) ≤ length qs
kept_shorter keep qs = omega (arith, length-filter_both keep (λ q. not (keep q)) (λ _. refl) qs)

-- the pending change of a session is in the queue
waiting_queued : (s : ℕ) (staged : ℕ → Option Rule) (queue : List Queued) (t : Option Key) (cs : List (Change Rule)) → AllByRecursion (Known queue t) cs
    → AllByRecursion (Mine s staged) cs → has_pending s cs ≡ true
    → Any (λ (q : Queued). (own_pending s q ≡ true) × ((x : ℕ) → q.written x ≡ is_some (staged x))) queue
waiting_queued s staged queue t [] known mine has = cc
waiting_queued s staged queue t (c ∷ cs) known mine has =
    ⊎_elim (λ p. ⊎_elim
    (λ gone. absurd (both_ways (is_pending_change c) gone.0 (and_parts (is_pending_change c) _ p).0))
    (λ h. any_weaker (Matches c) (λ (q : Queued). (own_pending s q ≡ true) × ((x : ℕ) → q.written x ≡ is_some (staged x)))
    (λ q m. (
      ap (λ v. v && eqb q.session s) m.waits ∙ ap (λ z. is_pending_change c && eqb z s) m.session ∙ p,
      λ x. m.writes x
          ∙ ap is_some (sym (mine.0 p x)),
    )) queue h)
    known.0)
    (λ h. waiting_queued s staged queue t cs known.1 mine.1 h) (or_cases _ _ has)

any_somewhere : (n : ℕ) (f : ℕ → Bool) → any_below n f ≡ true → (x : ℕ) × (x < n) × (f x ≡ true)
any_somewhere n f e = let o = some_is (lowest n f) e in let l = lowest_some n f o.0 o.1 in (o.0, l.inside, l.passes)

commit_numbers : (first : List Entry) (b : State) (a : Account Rule) (s : ℕ) → Inv first b a → (work_of b s).phase ≡ pending → Bounds b
    → Bounds (effect b (commit s))
commit_numbers first b a s inv is bounds = record {
  numbers = subst (λ n. number_after b s + owed n (map (finished s) b.queue) ≤ last_number)
      (sym (length_puts (count b) (work_of b s).staged b.entries))
      (grind (arith, bounds.numbers, owed_finished (count b) s b.queue, own));
  places = let same = length-map b.queue (finished s) in let old = bounds.places in omega arith;
}
  where
    own : any_below (count b) (replaced b s) ≡ true → suc (owed (count b) (map (finished s) b.queue)) ≤ owed (count b) b.queue
    own e =
        let x = any_somewhere (count b) (replaced b s) e in
        owed_own (count b) s b.queue
        (any_weaker (λ (q : Queued). (own_pending s q ≡ true) × ((x : ℕ) → q.written x ≡ is_some ((work_of b s).staged x))) (Wanting (count b) s)
        (λ q h. (h.0, below_any (count b) q.written x.0 x.1 (h.1 x.0 ∙ x.2))) b.queue
        (waiting_queued s (work_of b s).staged b.queue b.threshold a.accepted inv.known
        (all_mine (length first) (λ t. (b.sessions t).work) s a.accepted inv.changes)
        (in_phase pending b a s is (inv.works s)).1))

forward_numbers : (b : State) (s : ℕ) (k : Key) → Accepted b s k → Bounds b → Bounds (effect b (forward s k))
forward_numbers b s k ac bounds =
    let more = owed_push (count b) (entry_of s k (work_of b s)) b.queue in
    let longer = length_push b.queue (entry_of s k (work_of b s)) in
    let left = ac.number_left in
    let room = ac.room in
    let old = bounds in record { numbers = grind (arith, nat_tests); places = grind (arith, nat_tests) }

done_bounds : (first : List Entry) (b : State) (a : Account Rule) (c : Call) → Inv first b a → first_cause (checks b c) ≡ None → Bounds b
    → Bounds (effect b c)
done_bounds first b a (begin s) inv clear bounds = record { numbers = bounds.numbers; places = bounds.places }
done_bounds first b a (fetch s x) inv clear bounds = record { numbers = bounds.numbers; places = bounds.places }
done_bounds first b a (read s x) inv clear bounds = record { numbers = bounds.numbers; places = bounds.places }
done_bounds first b a (write s x r) inv clear bounds = record { numbers = bounds.numbers; places = bounds.places }
done_bounds first b a (drop s x) inv clear bounds = record { numbers = bounds.numbers; places = bounds.places }
done_bounds first b a (forward s k) inv clear bounds = forward_numbers b s k (accepted_says b s k clear) bounds
done_bounds first b a (commit s) inv clear bounds =
    commit_numbers first b a s inv (pending_is _ (when_none _ _ (cleared (checks b (commit s)) clear 1))) bounds
done_bounds first b a (abort s) inv clear bounds = record {
  numbers = let le = owed_kept (count b) (λ q. not (own_pending s q)) b.queue in let old = bounds.numbers in omega arith;
  places = let le = kept_shorter (λ q. not (own_pending s q)) b.queue in let old = bounds.places in omega arith;
}
done_bounds first b a (learn s) inv clear bounds = record { numbers = bounds.numbers; places = bounds.places }
done_bounds first b a (receipt s n) inv clear bounds = record { numbers = bounds.numbers; places = bounds.places }
done_bounds first b a (truncate k) inv clear bounds = record {
  numbers = let le = owed_kept (count b) (stays (later b.threshold k)) b.queue in let old = bounds.numbers in omega arith;
  places = let le = kept_shorter (stays (later b.threshold k)) b.queue in let old = bounds.places in omega arith;
}

-- one call keeps the bounds
pub bounds_step : (first : List Entry) (b : State) (a : Account Rule) (c : Call) → Inv first b a → Bounds b → Bounds (after b c)
bounds_step first b a c inv bounds = go (first_cause (checks b c)) refl
  where
    go : (o : Option Refusal) → first_cause (checks b c) ≡ o → Bounds (after_where o b c)
    go None e = done_bounds first b a c inv e bounds
    go (Some r) e = bounds

pub reached_bounds : (first : List Entry) {h : List Event} {b : State} → Reached first h b → Bounds b
reached_bounds first made = record { numbers = omega arith; places = omega arith }
reached_bounds first (called {h = h} {b = b} r c) = bounds_step first b (account (steps h)) c (reached_ok first r) (reached_bounds first r)

pub bounds_of_reached : BoundsOfReached
bounds_of_reached first h b r = reached_bounds first r
