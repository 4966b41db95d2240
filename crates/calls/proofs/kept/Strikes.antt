-- Striking out the pending change of a session: it was in no run. Assumes nothing.
use Rattle.std.proofs.Common.{◌≡◌, ℕ, true, not, List, [], ◌∷◌, filter, is_some, Some, Option, sym, refl, ◌∙◌, arith, cond, None}
use Rattle.std.proofs.lemmas.Bool.{cond_both}
use Rattle.rule.specs.declared.Rule.{Rule}
use Rattle.store.specs.declared.Entry.{Entry}
use Rattle.store.specs.declared.Entry.TheVariants.{Intact}
use Rattle.law.specs.Changes.{Change, Key}
use Rattle.law.specs.Accounts.{pending_of, Account, changed}
use Rattle.law.proofs.Runs.{AllRight, held_after, right_local}
use Rattle.std.specs.List.{slice_get, AllByRecursion}
use Rattle.law.proofs.Lists.{pairs_kept}
use Rattle.std.proofs.lemmas.Bool.Decides.{nat_tests}
use Rattle.calls.proofs.kept.Desks.{work_weaker}
use Rattle.calls.proofs.Tools.{each_session}
use Rattle.calls.specs.State.{Queued, Session, State}
use Rattle.calls.proofs.Invariant.{has_pending, Between, Known, Settled, WorkIn, WorkOk}

-- the accepted changes without the pending one of a session
abbrev pub without : ℕ → List (Change Rule) → List (Change Rule)
without s cs = filter (λ c. not (pending_of s c)) cs

-- a pending change is not committed
pub pending_none : (o : Option ℕ) → not (is_some o) ≡ true → o ≡ None
pending_none None e = refl
pending_none (Some p) e = cc

pub struck_holds : (m : ℕ → Option Entry) (s : ℕ) (cs : List (Change Rule)) (x : ℕ) → held_after Intact m (without s cs) x ≡ held_after Intact m cs x
struck_holds m s [] x = refl
struck_holds m s (c ∷ cs) x = let same = struck_holds m s cs x in grind arith

pub struck_right : (m : ℕ → Option Entry) (s : ℕ) (cs : List (Change Rule)) → AllRight Intact m cs → AllRight Intact m (without s cs)
struck_right m s [] right = tt
struck_right m s (c ∷ cs) right =
    cond_both (not (pending_of s c)) (c ∷ without s cs) (without s cs) (AllRight Intact m)
    (λ _. (
      right_local Intact (held_after Intact m cs) (held_after Intact m (without s cs)) c.ops (λ x _. sym (struck_holds m s cs x))
          right.0,
      struck_right m s cs right.1,
    ))
    (λ _. struck_right m s cs right.1)

-- the accepted changes stay settled, in a queue that knows those that are left
pub struck_settled : (first entries : List Entry) (queue now : List Queued) (threshold : Option Key) (s : ℕ) (cs : List (Change Rule))
    → Settled first entries queue threshold cs → AllByRecursion (Known now threshold) (without s cs)
    → Settled first entries now threshold (without s cs)
struck_settled first entries queue now threshold s cs old known = record {
  size = old.size;
  chain = pairs_kept Between Between (λ c d bt. bt) (λ c. not (pending_of s c)) cs old.chain;
  right = struck_right (slice_get first) s cs old.right;
  holds = λ x. old.holds x ∙ sym (struck_holds (slice_get first) s cs x);
  known = known;
}

-- the pending change of another session stays
pub struck_has : (s t : ℕ) → (t ≡ s → ⊥) → (cs : List (Change Rule)) → has_pending t cs ≡ true → has_pending t (without s cs) ≡ true
struck_has s t ne [] h = h
struck_has s t ne (c ∷ cs) h = let rest = struck_has s t ne cs in grind (arith, nat_tests)

-- a session without a change, and the others as they were
pub struck_works : (b : State) (a : Account Rule) (s : ℕ) (f : Session → Session)
    → WorkOk b.entries (f (b.sessions s)).desk None (has_pending s (without s a.accepted)) (f (b.sessions s)).work
    → ((t : ℕ) → WorkIn b a t (b.sessions t)) → (t : ℕ)
    → WorkOk b.entries (changed s f b.sessions t).desk (changed s (λ _. None) a.drafts t) (has_pending t (without s a.accepted))
    (changed s f b.sessions t).work
struck_works b a s f own works = each_session
    (λ v t. WorkOk b.entries (cond v (f (b.sessions t)) (b.sessions t)).desk (cond v None (a.drafts t)) (has_pending t (without s a.accepted))
    (cond v (f (b.sessions t)) (b.sessions t)).work) s own
    (λ t ne. work_weaker b a t (has_pending t (without s a.accepted)) (b.sessions t).work.phase (struck_has s t ne a.accepted) (works t))
