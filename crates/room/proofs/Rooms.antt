-- Every call leaves a notice number for every pending change that writes. Assumes nothing.
use Rattle.std.proofs.Common.{◌≡◌, ℕ, ◌+◌, ◌<◌, ◌≤◌, true, cond, not, eqb, List, [], ◌∷◌, ◌++◌, map, Some, None, filter, Option, sym, refl, ap, subst, arith}
use Rattle.std.proofs.lemmas.Bool.{not-false, both_ways, cond_both}
use Rattle.std.proofs.lemmas.Bool.Decides.{nat_tests}
use Rattle.refusal.specs.declared.Refusal.{Refusal}
use Rattle.rule.specs.declared.Rule.{Rule}
use Rattle.store.specs.declared.Entry.{Entry}
use Rattle.law.specs.Changes.{Key}
use Rattle.calls.specs.Sets.{any_below}
use Rattle.calls.specs.State.{opened, Session, Queued, State, written, no_work, just_made, Work}
use Rattle.calls.specs.Words.{Call, begin, fetch, read, write, drop, forward, commit, abort, learn, receipt, truncate}
use Rattle.calls.specs.Checks.{first_cause, is_pending, count, work_of, owed, last_number, checks}
use Rattle.calls.specs.Effects.{with_session, rule_in, begun, fetched, having_read, having_written, dropped, put_forward, entry_of, own_pending, replaced, number_after, committed, notified, finished, aborted, ends_change, having_learnt, receipted, later, stays, effect}
use Rattle.calls.specs.Calls.{after_where, after}
use Rattle.calls.proofs.Tools.{each_session, cleared, when_none}
use Rattle.calls.proofs.Owed.{owed_push, owed_kept, owed_finished, owed_own}
use Rattle.calls.proofs.kept.Phases.{opened_is}
use Rattle.calls.proofs.kept.Commits.{length_puts}
use Rattle.room.specs.Room.{owes, Room}
use Rattle.room.proofs.Owings.{owing, owed_one, owes_push, owes_last, owes_kept, owes_finished}

-- a session with a pending change that writes is in the queue
abbrev Owing : ℕ → ℕ → List Queued → Session → Type 0
Owing n t qs p = is_pending p.work.phase ≡ true → any_below n (written p.work) ≡ true → owes n t qs ≡ true

-- one session changed
with_changed : (b : State) (s : ℕ) (f : Session → Session) → Owing (count b) s b.queue (f (b.sessions s)) → Room b → Room (with_session s f b)
with_changed b s f own r = record {
  numbers = r.numbers;
  pending = each_session (λ v t. Owing (count b) t b.queue (cond v (f (b.sessions t)) (b.sessions t))) s own (λ t _. r.pending t);
}

-- the session of a commit that is not turned away is pending
waits : (b : State) (s : ℕ) → first_cause (checks b (commit s)) ≡ None → is_pending (work_of b s).phase ≡ true
waits b s none = not-false _ (when_none _ _ (cleared (checks b (commit s)) none 1))

-- a commit that writes and is not turned away finds a notice number
pub room_next : (b : State) → Room b → (s : ℕ) → first_cause (checks b (commit s)) ≡ None → any_below (count b) (written (work_of b s)) ≡ true → b.number < 4294967295
room_next b r s none a = omega (arith, r.numbers, owed_one (count b) s b.queue (r.pending s (waits b s none) a))

room_write : (b : State) (s x : ℕ) (q : Rule) → first_cause (checks b (write s x q)) ≡ None → Room b → Room (effect b (write s x q))
room_write b s x q none r =
    let op : (work_of b s).phase ≡ opened = opened_is _ (when_none _ _ (cleared (checks b (write s x q)) none 2)) in
    with_changed b s (having_written x q) (λ h _. absurd (both_ways _ (ap is_pending op) h)) r

room_forward : (b : State) (s : ℕ) (k : Key) → first_cause (checks b (forward s k)) ≡ None → Room b → Room (effect b (forward s k))
room_forward b s k none r =
    let n = count b in
    let q = entry_of s k (work_of b s) in
    let left = when_none _ _ (cleared (checks b (forward s k)) none 8) in
    record {
      numbers = grind (arith, nat_tests, r.numbers, owed_push n q b.queue);
      pending = each_session (λ v t. Owing n t (b.queue ++ q ∷ []) (cond v (put_forward (b.sessions t)) (b.sessions t))) s
          (λ _ a. owes_last n s q b.queue (grind (arith, nat_tests)))
          (λ t _ p a. owes_push n t q b.queue (r.pending t p a));
    }

room_commit : (b : State) (s : ℕ) → first_cause (checks b (commit s)) ≡ None → Room b → Room (effect b (commit s))
room_commit b s none r =
    let n = count b in
    let same = sym (length_puts n (work_of b s).staged b.entries) in
    let own = λ (a : any_below n (replaced b s) ≡ true). owed_own n s b.queue (owing n s b.queue (r.pending s (waits b s none) a)) in
    let numbers : number_after b s + owed n (map (finished s) b.queue) ≤ last_number = grind (arith, r.numbers, owed_finished n s b.queue, own) in
    record {
      numbers = subst (λ (m : ℕ). number_after b s + owed m (map (finished s) b.queue) ≤ last_number) same numbers;
      pending = subst
          (λ (m : ℕ). (t : ℕ) → Owing m t (map (finished s) b.queue) (cond (eqb t s) (committed (b.sessions t)) (notified (replaced b s) (number_after b s) (b.sessions t))))
          same
          (each_session
          (λ v t. Owing n t (map (finished s) b.queue) (cond v (committed (b.sessions t)) (notified (replaced b s) (number_after b s) (b.sessions t)))) s
          (λ h _. cc) (λ t ne p w. owes_finished n s t ne b.queue (r.pending t p w)));
    }

room_abort : (b : State) (s : ℕ) → Room b → Room (effect b (abort s))
room_abort b s r =
    let n = count b in
    let kept = filter (λ q. not (own_pending s q)) b.queue in
    record {
      numbers = omega (arith, owed_kept n (λ q. not (own_pending s q)) b.queue, r.numbers);
      pending = each_session (λ v t. Owing n t kept (cond v (aborted (b.sessions t)) (b.sessions t))) s (λ h _. cc)
          (λ t ne p w. owes_kept n t (λ q. not (own_pending s q)) (λ q own. grind (arith, nat_tests)) b.queue (r.pending t p w));
    }

room_truncate : (b : State) (k : Key) → Room b → Room (effect b (truncate k))
room_truncate b k r =
    let n = count b in
    let keep = stays (later b.threshold k) in
    record {
      numbers = omega (arith, owed_kept n keep b.queue, r.numbers);
      pending = λ t p w. owes_kept n t keep (λ q own. grind arith) b.queue (r.pending t p w);
    }

room_learn : (b : State) (s : ℕ) → Room b → Room (effect b (learn s))
room_learn b s r =
    let n = count b in
    let p = b.sessions s in
    let In : Work → Type 0 = λ w. is_pending w.phase ≡ true → any_below n (written w) ≡ true → owes n s b.queue ≡ true in
    with_changed b s (having_learnt n b.number) (cond_both (ends_change n p) no_work p.work In (λ _ h _. cc) (λ _. r.pending s)) r

room_effect : (b : State) (c : Call) → first_cause (checks b c) ≡ None → Room b → Room (effect b c)
room_effect b (begin s) none r = with_changed b s begun (λ h _. cc) r
room_effect b (fetch s x) none r = with_changed b s (fetched x (rule_in b.entries x)) (r.pending s) r
room_effect b (read s x) none r = with_changed b s (having_read x) (r.pending s) r
room_effect b (write s x q) none r = room_write b s x q none r
room_effect b (drop s x) none r = with_changed b s (dropped x) (r.pending s) r
room_effect b (forward s k) none r = room_forward b s k none r
room_effect b (commit s) none r = room_commit b s none r
room_effect b (abort s) none r = room_abort b s r
room_effect b (learn s) none r = room_learn b s r
room_effect b (receipt s n) none r = with_changed b s (receipted n) (r.pending s) r
room_effect b (truncate k) none r = room_truncate b k r

room_where : (b : State) (c : Call) (o : Option Refusal) → first_cause (checks b c) ≡ o → Room b → Room (after_where o b c)
room_where b c None e r = room_effect b c e r
room_where b c (Some cause) e r = r

-- a book just made has room, and every call leaves room
pub room_made : (l : List Entry) → Room (just_made l)
room_made l = record { numbers = omega arith; pending = λ s h _. cc }

pub room_after : (b : State) (c : Call) → Room b → Room (after b c)
room_after b c r = room_where b c (first_cause (checks b c)) refl r
