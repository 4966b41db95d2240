-- Sessions kept in a list: what changing one of them, and telling all the others, comes to. Assumes nothing.
use Rattle.std.proofs.Common.{◌≡◌, ℕ, ◌<◌, ◌≤◌, Bool, false, cond, ◌&&◌, eqb, List, length, get_or, set, replicate, Some, None, sym, refl, ap, ◌∙◌, ⊎_elim, arith}
use mathlib.Core.Path.{fun_ext}
use Rattle.std.proofs.lemmas.List.{get_or-set_same, get_or-set_other, get_or-replicate, get_or_past, length-replicate}
use Rattle.std.proofs.lemmas.Bool.{and_right, cond-false, cases_lt, ne_eqb}
use Rattle.law.specs.Accounts.{changed}
use Rattle.calls.specs.State.{Session, fresh, sessions_of}
use Rattle.calls.specs.Effects.{notified}
use Rattle.calls.proofs.Tools.{by_number}

-- one session is set
pub one_set : (l : List Session) (s : ℕ) (f : Session → Session) → s < length l
    → sessions_of (set l s (f (get_or l s fresh))) ≡ changed s f (sessions_of l)
one_set l s f lt = fun_ext λ t. by_number (λ v. get_or (set l s (f (get_or l s fresh))) t fresh ≡ cond v (f (get_or l t fresh)) (get_or l t fresh)) t s
    (λ e. ap (λ z. get_or (set l s (f (get_or l s fresh))) z fresh) e ∙ get_or-set_same l s (f (get_or l s fresh)) fresh lt
    ∙ ap (λ z. f (get_or l z fresh)) (sym e))
    (λ ne. get_or-set_other l s t (f (get_or l s fresh)) fresh ne)

-- a session that holds nothing is not told of anything
pub notified_fresh : (slots : ℕ → Bool) (n : ℕ) → notified slots n fresh ≡ fresh
notified_fresh slots n = λ i. record {
  desk = record {
    copies = λ _. None;
    notices = λ x. cond-false (slots x && false) (Some n) None (and_right (slots x) false refl) i;
    learnt = 0;
  };
  work = fresh.work;
}

-- one session is changed in one way, and all the others in another that leaves a session which has done nothing
pub all_set : (l k : List Session) (s : ℕ) (f g : Session → Session) → s < length l → length k ≡ length l → g fresh ≡ fresh
    → ((t : ℕ) → t < length l → get_or k t fresh ≡ cond (eqb t s) (f (get_or l t fresh)) (g (get_or l t fresh)))
    → sessions_of k ≡ (λ t. cond (eqb t s) (f (sessions_of l t)) (g (sessions_of l t)))
all_set l k s f g lt same still each = fun_ext λ t. ⊎_elim (each t)
    (λ le. let past : length k ≤ t = omega arith in
    get_or_past k t fresh past
    ∙ sym (cond-false (eqb t s) (f (get_or l t fresh)) (g (get_or l t fresh)) (ne_eqb t s (λ e. omega arith)) ∙ ap g (get_or_past l t fresh le)
    ∙ still))
    (cases_lt t (length l))

-- sessions that have done nothing
pub none_set : (n : ℕ) → sessions_of (replicate n fresh) ≡ (λ _. fresh)
none_set n = fun_ext λ t. ⊎_elim (λ lt. get_or-replicate n t fresh fresh lt)
    (λ le. get_or_past (replicate n fresh) t fresh (let same = length-replicate n fresh in omega arith)) (cases_lt t n)
