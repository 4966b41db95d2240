-- A learn keeps the invariant, whether it ends a change or not. Assumes nothing.
use Rattle.std.proofs.Common.{◌≡◌, ℕ, ◌<◌, true, false, not, ◌&&◌, List, length, None, sym, refl, ap, subst, arith}
use Rattle.std.specs.List.{AllByRecursion}
use Rattle.std.proofs.lemmas.Bool.{cond-true, cond-false}
use Rattle.rule.specs.declared.Rule.{Rule}
use Rattle.store.specs.declared.Entry.{Entry}
use Rattle.law.specs.Accounts.{Account, changed, pending_of, strikes, passes}
use Rattle.law.specs.Accounts.{after as then}
use Rattle.law.proofs.Lists.{all_kept}
use Rattle.law.proofs.Places.{places_kept}
use Rattle.calls.specs.Sets.{meets}
use Rattle.calls.specs.State.{State, no_work}
use Rattle.calls.proofs.Tools.{changed_keeps}
use Rattle.calls.proofs.Sets.{apart}
use Rattle.calls.proofs.Invariant.{DeskIn, WorkIn, has_pending, DeskOk, WorkOk, ChangeOk, Known, Inv}
use Rattle.calls.specs.Words.{learn}
use Rattle.calls.specs.Checks.{count, desk_of, work_of, is_opened}
use Rattle.calls.specs.Effects.{effect, learn_drops, ends_change, having_learnt}
use Rattle.calls.proofs.kept.Phases.{changes_kept}
use Rattle.calls.proofs.kept.Desks.{desk_changed}
use Rattle.calls.proofs.kept.Strikes.{without, struck_settled, struck_works}

module _ (first : List Entry) (b : State) (a : Account Rule) (s : ℕ) (inv : Inv first b a) where
  desks_after : (t : ℕ)
      → DeskOk (length first) b.entries b.number a.replacings t (a.taken t)
      (changed s (having_learnt (count b) b.number) b.sessions t).desk
  desks_after = changed_keeps (λ t p. DeskIn first b a t p.desk) s (having_learnt (count b) b.number) b.sessions inv.desks
      (λ ok. record {
        true_copy = λ x r e z. grind (arith, ok.true_copy x r);
        inside = λ x h. grind (arith, ok.inside x);
        told = λ x h. grind (arith, ok.told x);
        taken_once = λ x h. grind (arith, ok.taken_once x);
        not_learnt = λ x k h e. grind arith;
        within = ok.within;
        learnt_within = omega arith;
      })

  changes_after : AllByRecursion (ChangeOk (length first) (λ t. (changed s (having_learnt (count b) b.number) b.sessions t).work)) a.accepted
  changes_after = changes_kept (length first) s (having_learnt (count b) b.number) b.sessions
      (λ e. cond-false (ends_change (count b) (b.sessions s)) no_work (work_of b s)
      (ap (λ q. is_opened q && meets (count b) (work_of b s).read (learn_drops (desk_of b s))) e)) a.accepted inv.changes

  -- no change ended
  pub learn_ok : ends_change (count b) (b.sessions s) ≡ false → Inv first (effect b (learn s)) (then passes a)
  learn_ok goes_on = record {
    settled = inv.settled;
    changes = changes_after;
    desks = desks_after;
    works = changed_keeps (WorkIn b a) s (having_learnt (count b) b.number) b.sessions inv.works
        (λ ok. subst
        (λ w. WorkOk b.entries (having_learnt (count b) b.number (b.sessions s)).desk (a.drafts s) (has_pending s a.accepted) w)
        (sym (cond-false (ends_change (count b) (b.sessions s)) no_work (work_of b s) goes_on))
        (desk_changed b a s (having_learnt (count b) b.number (b.sessions s)).desk (work_of b s).phase
        (λ op x r h. let lt : x < count b = grind (arith, (inv.desks s).inside x, inv.size) in
        grind (arith, ap is_opened op, apart (count b) (work_of b s).read (learn_drops (desk_of b s)))) (λ _ x z. z) ok));
    places = places_kept passes a inv.places;
  }

  -- a change ended
  pub learn_ends_ok : ends_change (count b) (b.sessions s) ≡ true → Inv first (effect b (learn s)) (then (strikes s) a)
  learn_ends_ok ended = record {
    settled =
        struck_settled first b.entries b.queue b.queue b.threshold s a.accepted inv.settled
        (all_kept (Known b.queue b.threshold) (Known b.queue b.threshold) (λ c. not (pending_of s c)) (λ c _ k. k) a.accepted inv.known);
    changes =
        all_kept (ChangeOk (length first) (λ t. (changed s (having_learnt (count b) b.number) b.sessions t).work))
        (ChangeOk (length first) (λ t. (changed s (having_learnt (count b) b.number) b.sessions t).work)) (λ c. not (pending_of s c))
        (λ c _ ok. ok) a.accepted changes_after;
    desks = desks_after;
    works = struck_works b a s (having_learnt (count b) b.number)
        (subst
        (λ w. WorkOk b.entries (having_learnt (count b) b.number (b.sessions s)).desk None (has_pending s (without s a.accepted)) w)
        (sym (cond-true (ends_change (count b) (b.sessions s)) no_work (work_of b s) ended)) refl) inv.works;
    places = places_kept (strikes s) a inv.places;
  }
