-- Changes and phases: what the phase of a session tells, and what calls that leave pending changes alone keep. Assumes nothing.
use Rattle.std.proofs.Common.{◌≡◌, ℕ, false, cond, not, List, Some, Option, sym, refl, ap, ◌∙◌, subst, true≢false}
use Rattle.std.specs.List.{AllByRecursion}
use Rattle.rule.specs.declared.Rule.{Rule}
use Rattle.law.specs.Changes.{Change}
use Rattle.law.specs.Accounts.{Draft, Account, changed}
use Rattle.law.proofs.Lists.{all_weaker}
use Rattle.calls.specs.State.{Phase, idle, opened, pending, Work, Session, State}
use Rattle.calls.proofs.Tools.{each_session}
use Rattle.calls.proofs.Invariant.{OpenOk, WorkOk, has_pending, WorkIn, ByPhase, ChangeOk}
use Rattle.calls.specs.Checks.{is_idle, is_opened, is_pending}

pub opened_is : (p : Phase) → not (is_opened p) ≡ false → p ≡ opened
opened_is idle e = cc
opened_is opened e = refl
opened_is pending e = cc

pub idle_is : (p : Phase) → not (is_idle p) ≡ false → p ≡ idle
idle_is idle e = refl
idle_is opened e = cc
idle_is pending e = cc

pub pending_is : (p : Phase) → not (is_pending p) ≡ false → p ≡ pending
pending_is idle e = cc
pending_is opened e = cc
pending_is pending e = refl

pub not_pending : (p : Phase) → not (not (is_pending p)) ≡ false → p ≡ pending → ⊥
not_pending p e q = true≢false (sym (ap (λ z. not (not (is_pending z))) q) ∙ e)

pub idle_pending : (p : Phase) → p ≡ idle → p ≡ pending → ⊥
idle_pending p e q = cc

pub opened_pending : (p : Phase) → p ≡ opened → p ≡ pending → ⊥
opened_pending p e q = cc

-- a session in a known phase
pub in_phase : (p : Phase) (b : State) (a : Account Rule) (s : ℕ) → (b.sessions s).work.phase ≡ p → WorkIn b a s (b.sessions s)
    → ByPhase p b.entries (b.sessions s).desk (a.drafts s) (has_pending s a.accepted) (b.sessions s).work
in_phase p b a s e ok =
    subst (λ z. ByPhase z b.entries (b.sessions s).desk (a.drafts s) (has_pending s a.accepted) (b.sessions s).work) e ok

-- where the change of every pending session stays, the accepted changes stay right
pub works_kept : (n : ℕ) (f g : ℕ → Work) → ((t : ℕ) → (f t).phase ≡ pending → g t ≡ f t) → (cs : List (Change Rule)) → AllByRecursion (ChangeOk n f) cs
    → AllByRecursion (ChangeOk n g) cs
works_kept n f g same =
    all_weaker (ChangeOk n f) (ChangeOk n g)
    (λ c ok. record {
      written_read = ok.written_read;
      inside = ok.inside;
      mine =
          λ p. let m = ok.mine p in let e = same c.session m.0 in
          (ap (λ (w : Work). w.phase) e ∙ m.0, λ x. ap (λ (w : Work). w.staged x) e ∙ m.1 x);
    })

-- a session is changed, but not its change if that is pending: the accepted changes stay right
pub changes_kept : (n s : ℕ) (f : Session → Session) (sessions : ℕ → Session) → ((sessions s).work.phase ≡ pending → (f (sessions s)).work ≡ (sessions s).work)
    → (cs : List (Change Rule)) → AllByRecursion (ChangeOk n (λ t. (sessions t).work)) cs
    → AllByRecursion (ChangeOk n (λ t. (changed s f sessions t).work)) cs
changes_kept n s f sessions same =
    works_kept n (λ t. (sessions t).work) (λ t. (changed s f sessions t).work)
    (each_session (λ v t. (sessions t).work.phase ≡ pending → (cond v (f (sessions t)) (sessions t)).work ≡ (sessions t).work) s same (λ t _ _. refl))

module _ (n s : ℕ) (f : Session → Session) (sessions : ℕ → Session) where
  -- a session that is not pending is changed
  pub others_stay : ((sessions s).work.phase ≡ pending → ⊥) → (cs : List (Change Rule))
      → AllByRecursion (ChangeOk n (λ t. (sessions t).work)) cs → AllByRecursion (ChangeOk n (λ t. (changed s f sessions t).work)) cs
  others_stay no_pending = changes_kept n s f sessions (λ e. absurd (no_pending e))

  -- no change is touched
  pub changes_stay : ((p : Session) → (f p).work ≡ p.work) → (cs : List (Change Rule))
      → AllByRecursion (ChangeOk n (λ t. (sessions t).work)) cs → AllByRecursion (ChangeOk n (λ t. (changed s f sessions t).work)) cs
  changes_stay same = changes_kept n s f sessions (λ _. same (sessions s))

module _ (b : State) (a : Account Rule) (s : ℕ) (f : Session → Session) (g : Option (Draft Rule) → Option (Draft Rule))
    (works : (t : ℕ) → WorkIn b a t (b.sessions t)) where
  -- a session and its draft are changed, and the session has an open change
  pub one_open : (f (b.sessions s)).work.phase ≡ opened → (t : Draft Rule) → g (a.drafts s) ≡ Some t
      → OpenOk (f (b.sessions s)).desk.copies (f (b.sessions s)).work t
      → (u : ℕ)
      → WorkOk b.entries (changed s f b.sessions u).desk (changed s g a.drafts u) (has_pending u a.accepted)
      (changed s f b.sessions u).work
  one_open op t is ok = each_session
      (λ v u. WorkOk b.entries (cond v (f (b.sessions u)) (b.sessions u)).desk (cond v (g (a.drafts u)) (a.drafts u))
      (has_pending u a.accepted) (cond v (f (b.sessions u)) (b.sessions u)).work) s
      (subst (λ q. ByPhase q b.entries (f (b.sessions s)).desk (g (a.drafts s)) (has_pending s a.accepted) (f (b.sessions s)).work)
      (sym op) (t, is, ok))
      (λ u _. works u)
