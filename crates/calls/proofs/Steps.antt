-- One call keeps the invariant, and the law of every state that is reached. Assumes nothing.
use Rattle.std.proofs.Common.{◌≡◌, ℕ, ◌+◌, Bool, true, false, cond, ◌&&◌, eqb, List, [], ◌∷◌, is_some, Some, None, Option, sym, refl, ap, ◌∙◌, subst, arith}
use Rattle.std.specs.Option.{option_map, option_or}
use Rattle.std.proofs.lemmas.Bool.{cond_both}
use Rattle.refusal.specs.declared.Refusal.{Refusal}
use Rattle.rule.specs.declared.Rule.{Rule}
use Rattle.store.specs.declared.Entry.{Entry}
use Rattle.store.specs.declared.Entry.TheVariants.{Intact}
use Rattle.law.specs.Changes.{Key, Clash, same_key}
use Rattle.law.specs.Accounts.{Account, begins, takes, writes, commits, strikes, passes, stale, withheld}
use Rattle.law.specs.Accounts.{after as then}
use Rattle.law.proofs.Lists.{pairs_kept}
use Rattle.calls.specs.Sets.{lowest, any_below}
use Rattle.calls.specs.State.{opened, State, noticed, written}
use Rattle.calls.proofs.Tools.{cleared, when_none}
use Rattle.calls.proofs.Invariant.{Between, Inv}
use Rattle.refusal.specs.declared.Refusal.TheVariants.{
  NoSuchSession,
  WrongPhase,
  StampTooEarly,
  StampTaken,
  QueueFull,
  LaterConflict,
  PendingConflict,
  Stale,
  NumbersExhausted,
}
use Rattle.refusal.specs.Table.{told}
use Rattle.law.specs.Changes.{committed_of, Explains}
use Rattle.law.specs.Accounts.{Step, account}
use Rattle.law.specs.Orders.{FollowsStamps, earlier_stamp}
use Rattle.law.specs.Law.{Law, RightStep, StaleExactly}
use Rattle.law.proofs.Reorder.{reordering_law}
use Rattle.law.proofs.Stamps.{sorted_explains, earlier_once}
use Rattle.law.proofs.Runs.{explained}
use Rattle.law.proofs.Places.{earlier_first}
use Rattle.calls.specs.State.{just_made}
use Rattle.calls.specs.Words.{refused, Call, begin, fetch, read, write, drop, forward, commit, abort, learn, receipt, truncate}
use Rattle.calls.specs.Checks.{
  first_cause,
  checks,
  when,
  count,
  work_of,
  desk_of,
  no_session,
  wrong_phase,
  is_opened,
  too_early,
  stamp_taken,
  queue_full,
  later_conflict,
  pending_conflict,
  numbers_exhausted,
  owed,
  last_number,
}
use Rattle.calls.specs.Effects.{effect, ends_change, rule_in}
use Rattle.calls.specs.Calls.{answer_where, after_where, answer, after, value, rule_answer}
use Rattle.calls.specs.Histories.{
  tells_end,
  Event,
  is_refused,
  refused_outcome,
  forward_step,
  read_step,
  rule_of,
  step_of,
  steps,
  event,
  Reached,
  made,
  called,
  final,
  history,
  LawOfRuns,
  LawOfReached,
  CommitsOfReached,
  OrdersOfReached,
  stale_number,
  exhausted_number,
}
use Rattle.calls.proofs.Invariant.{made_ok}
use Rattle.calls.proofs.kept.Phases.{opened_is, pending_is}
use Rattle.calls.proofs.kept.Pause.{pause_ok}
use Rattle.calls.proofs.kept.Begin.{begin_ok}
use Rattle.calls.proofs.kept.Fetch.{fetch_ok}
use Rattle.calls.proofs.kept.Read.{read_shows, read_ok}
use Rattle.calls.proofs.kept.Write.{write_ok}
use Rattle.calls.proofs.kept.Drop.{drop_ok}
use Rattle.calls.proofs.kept.Forward.{accepted_says, forward_ok, nothing_stale, lowest_stale}
use Rattle.calls.proofs.kept.Commit.{commit_ok, never_refused}
use Rattle.calls.proofs.kept.Abort.{abort_ok}
use Rattle.calls.proofs.kept.Learn.{learn_ok, learn_ends_ok}
use Rattle.calls.proofs.kept.Receipt.{receipt_ok}
use Rattle.calls.proofs.kept.Truncate.{truncate_ok}

-- a forward that is refused does not count for the account
refused_forward : (first : List Entry) (b : State) (a : Account Rule) (s : ℕ) (k : Key) (e : Refusal) → Inv first b a
    → Inv first b (then (forward_step s k (refused_outcome e)) a)
refused_forward first b a s k e inv =
    cond_both (eqb (told e).number stale_number) (Some (stale (told e).place)) (cond (eqb (told e).number exhausted_number) (Some withheld) None)
    (λ o. Inv first b (then (forward_step s k o) a))
    (λ _. pause_ok first b a inv)
    (λ _. cond_both (eqb (told e).number exhausted_number) (Some withheld) None (λ o. Inv first b (then (forward_step s k o) a))
    (λ _. pause_ok first b a inv) (λ _. pause_ok first b a inv))

refused_ok : (first : List Entry) (b : State) (a : Account Rule) (c : Call) (e : Refusal) → Inv first b a
    → Inv first b (then (step_of c (refused e)) a)
refused_ok first b a (begin s) e inv = pause_ok first b a inv
refused_ok first b a (fetch s x) e inv = pause_ok first b a inv
refused_ok first b a (read s x) e inv = pause_ok first b a inv
refused_ok first b a (write s x r) e inv = pause_ok first b a inv
refused_ok first b a (drop s x) e inv = pause_ok first b a inv
refused_ok first b a (forward s k) e inv = refused_forward first b a s k e inv
refused_ok first b a (commit s) e inv = pause_ok first b a inv
refused_ok first b a (abort s) e inv = pause_ok first b a inv
refused_ok first b a (learn s) e inv = pause_ok first b a inv
refused_ok first b a (receipt s n) e inv = pause_ok first b a inv
refused_ok first b a (truncate k) e inv = pause_ok first b a inv

-- a rule as an answer is no refusal
not_refused : (o : Option Rule) → is_refused (rule_answer o) ≡ false
not_refused None = refl
not_refused (Some r) = refl

done_ok : (first : List Entry) (b : State) (a : Account Rule) (c : Call) → Inv first b a → first_cause (checks b c) ≡ None
    → Inv first (effect b c) (then (step_of c (value b c)) a)
done_ok first b a (begin s) inv clear = begin_ok first b a s inv clear
done_ok first b a (fetch s x) inv clear =
    subst (λ v. Inv first (effect b (fetch s x)) (then (cond v passes (takes s x)) a)) (sym (not_refused (rule_in b.entries x)))
    (fetch_ok first b a s x inv clear)
done_ok first b a (read s x) inv clear =
    let r = read_shows b s x clear in
    subst (λ o. Inv first (effect b (read s x)) (then (read_step s x (rule_of (rule_answer o))) a)) (sym r.1)
    (read_ok first b a s x r.0 r.1 inv clear)
done_ok first b a (write s x r) inv clear = write_ok first b a s x r inv clear
done_ok first b a (drop s x) inv clear = drop_ok first b a s x inv clear
done_ok first b a (forward s k) inv clear = forward_ok first b a s k inv (accepted_says b s k clear)
done_ok first b a (commit s) inv clear =
    commit_ok first b a s inv (pending_is _ (when_none _ _ (cleared (checks b (commit s)) clear 1)))
done_ok first b a (abort s) inv clear = abort_ok first b a s inv
done_ok first b a (learn s) inv clear =
    cond_both (ends_change (count b) (b.sessions s)) (strikes s) passes (λ e. Inv first (effect b (learn s)) (then e a))
    (λ e. learn_ends_ok first b a s inv e) (λ e. learn_ok first b a s inv e)
done_ok first b a (receipt s n) inv clear = receipt_ok first b a s n inv clear
done_ok first b a (truncate k) inv clear = truncate_ok first b a k inv

-- THE STEP: the invariant before a call gives the invariant after it, with the event added
pub step : (first : List Entry) (b : State) (a : Account Rule) (c : Call) → Inv first b a → Inv first (after b c) (then (step_of c (answer b c)) a)
step first b a c inv = go (first_cause (checks b c)) refl
  where
    go : (o : Option Refusal) → first_cause (checks b c) ≡ o → Inv first (after_where o b c) (then (step_of c (answer_where o b c)) a)
    go None e = done_ok first b a c inv e
    go (Some r) e = refused_ok first b a c r inv

-- a check that is tried before staleness
skip : (a : Account Rule) (b : State) (s : ℕ) (k : Key) (o rest : Option Refusal) → ((e : Refusal) → o ≡ Some e → refused_outcome e ≡ None)
    → (o ≡ None → RightStep a (step_of (forward s k) (answer_where rest b (forward s k))))
    → RightStep a (step_of (forward s k) (answer_where (option_or o rest) b (forward s k)))
skip a b s k None rest earlier' more = more refl
skip a b s k (Some e) rest earlier' more = subst (λ o. RightStep a (forward_step s k o)) (sym (earlier' e refl)) tt

when_cause : (v : Bool) (cause e : Refusal) → refused_outcome cause ≡ None → when v cause ≡ Some e → refused_outcome e ≡ None
when_cause test cause e before is = let same : cause ≡ e = grind arith in ap refused_outcome (sym same) ∙ before

option_map_cause : (f : ℕ → Refusal) (o : Option ℕ) (e : Refusal) → ((n : ℕ) → refused_outcome (f n) ≡ None) → option_map f o ≡ Some e
    → refused_outcome e ≡ None
option_map_cause f None e before is = cc
option_map_cause f (Some n) e before is = let same : f n ≡ e = cc in ap refused_outcome (sym same) ∙ before n

-- a forward is refused as stale exactly when it should be
forward_right : (first : List Entry) (b : State) (a : Account Rule) (s : ℕ) (k : Key) → Inv first b a
    → RightStep a (step_of (forward s k) (answer b (forward s k)))
forward_right first b a s k inv =
    skip a b s k (no_session s) _ (λ e. when_cause _ (NoSuchSession s) e refl) (λ _.
    skip a b s k (wrong_phase is_opened b s) _ (λ e. when_cause _ (WrongPhase s) e refl) (λ ph.
    skip a b s k (too_early b k) _ (λ e. when_cause _ StampTooEarly e refl) (λ _.
    skip a b s k (stamp_taken b k) _ (λ e. option_map_cause StampTaken _ e (λ _. refl)) (λ _.
    skip a b s k (queue_full b) _ (λ e. when_cause _ QueueFull e refl) (λ _.
    skip a b s k (later_conflict b s k) _ (λ e. option_map_cause LaterConflict _ e (λ _. refl)) (λ _.
    skip a b s k (pending_conflict b s k) _ (λ e. option_map_cause PendingConflict _ e (λ _. refl)) (λ _.
    stale_or (opened_is _ (when_none _ _ ph)) (lowest (count b) (λ x. (work_of b s).read x && noticed (desk_of b s) x)) refl)))))))
  where
    stale_or : (work_of b s).phase ≡ opened → (o : Option ℕ) → lowest (count b) (λ x. (work_of b s).read x && noticed (desk_of b s) x) ≡ o
        → RightStep a (step_of (forward s k) (answer_where (option_or (option_map Stale o) (option_or (numbers_exhausted b s) None)) b (forward s k)))
    stale_or op None e =
        cond_both (any_below (count b) (written (work_of b s)) && eqb (b.number + owed (count b) b.queue) last_number)
        (Some NumbersExhausted) None
        (λ o. RightStep a (step_of (forward s k) (answer_where (option_or o None) b (forward s k)))) (λ _. nothing_stale first b a s inv op e)
        (λ _. nothing_stale first b a s inv op e)
    stale_or op (Some x) e = lowest_stale first b a s inv op x e

-- every call is answered rightly
pub right_answer : (first : List Entry) (b : State) (a : Account Rule) (c : Call) → Inv first b a → RightStep a (step_of c (answer b c))
right_answer first b a (begin s) inv = cond_both (is_refused (answer b (begin s))) passes (begins s) (RightStep a) (λ _. tt) (λ _. tt)
right_answer first b a (fetch s x) inv = cond_both (is_refused (answer b (fetch s x))) passes (takes s x) (RightStep a) (λ _. tt) (λ _. tt)
right_answer first b a (read s x) inv = go (rule_of (answer b (read s x)))
  where
    go : (o : Option Rule) → RightStep a (read_step s x o)
    go None = tt
    go (Some r) = tt
right_answer first b a (write s x r) inv = cond_both (is_refused (answer b (write s x r))) passes (writes s x r) (RightStep a) (λ _. tt) (λ _. tt)
right_answer first b a (drop s x) inv = tt
right_answer first b a (forward s k) inv = forward_right first b a s k inv
right_answer first b a (commit s) inv = cond_both (is_refused (answer b (commit s))) passes (commits s) (RightStep a) (λ _. tt) (λ _. tt)
right_answer first b a (abort s) inv = cond_both (is_refused (answer b (abort s))) passes (strikes s) (RightStep a) (λ _. tt) (λ _. tt)
right_answer first b a (learn s) inv = cond_both (tells_end (answer b (learn s))) (strikes s) passes (RightStep a) (λ _. tt) (λ _. tt)
right_answer first b a (receipt s n) inv = tt
right_answer first b a (truncate k) inv = tt

-- the invariant holds of every state that is reached
pub reached_ok : (first : List Entry) {h : List Event} {b : State} → Reached first h b → Inv first b (account (steps h))
reached_ok first made = made_ok first
reached_ok first (called {h = h} {b = b} r c) = step first b (account (steps h)) c (reached_ok first r)

pub reached_right : (first : List Entry) {h : List Event} {b : State} → Reached first h b → StaleExactly (steps h)
reached_right first made = tt
reached_right first (called {h = h} {b = b} r c) = (right_answer first b (account (steps h)) c (reached_ok first r), reached_right first r)

-- the committed changes follow their stamps where they clash
pub follows : (first : List Entry) (b : State) (a : Account Rule) → Inv first b a → FollowsStamps (committed_of a.accepted)
follows first b a inv =
    pairs_kept Between (λ c d. Clash c d → earlier_stamp c d ≡ true) (λ c d bt. bt.rising) (λ c. is_some c.committed) a.accepted inv.chain

-- and explain the entries as they were accepted
pub accepted_explains : (first : List Entry) (b : State) (a : Account Rule) → Inv first b a
    → Explains Intact first (committed_of a.accepted) b.entries
accepted_explains first b a inv = explained Intact first b.entries a.accepted inv.right inv.holds

-- the law, of a state of which the invariant holds
pub law_of : (first : List Entry) (b : State) (h : List (Step Rule)) → Inv first b (account h) → StaleExactly h → Law Intact first h b.entries
law_of first b h inv right =
    let explains = accepted_explains first b (account h) inv in
    record {
      by_stamp = sorted_explains Intact first b.entries (committed_of (account h).accepted)
          (pairs_kept Between (λ c d. same_key c.key d.key ≡ false) (λ c d bt. bt.apart) (λ c. is_some c.committed) (account h).accepted
          inv.chain)
          (follows first b (account h) inv) explains;
      by_acceptance = record { explains = explains; earlier_first = earlier_first (account h) inv.places };
      stale_exactly = right;
    }

pub law_of_reached : LawOfReached
law_of_reached first h b r = law_of first b (steps h) (reached_ok first r) (reached_right first r)

-- a run of calls reaches what it leads to
pub run_reaches : (first : List Entry) (cs : List Call) (h : List Event) (b : State) → Reached first h b → Reached first (history b cs h) (final b cs)
run_reaches first [] h b r = r
run_reaches first (c ∷ cs) h b r = run_reaches first cs (event b c ∷ h) (after b c) (called r c)

pub commits_of_reached : CommitsOfReached
commits_of_reached first h b r s is = never_refused first b (account (steps h)) s (reached_ok first r) is

pub orders_of_reached : OrdersOfReached
orders_of_reached first h b r order same fits =
    let inv = reached_ok first r in
    reordering_law Intact earlier_stamp (λ c d. earlier_once c.key d.key) first b.entries
    (committed_of (account (steps h)).accepted) order same (follows first b (account (steps h)) inv) fits
    (accepted_explains first b (account (steps h)) inv)

pub law_of_runs : LawOfRuns
law_of_runs first cs =
    law_of_reached first (history (just_made first) cs []) (final (just_made first) cs) (run_reaches first cs [] (just_made first) made)
