-- An abort keeps the invariant. Assumes nothing.
use Rattle.std.proofs.Common.{◌≡◌, ℕ, true, not, ◌&&◌, eqb, List, length, filter, sym, refl, ap, ◌∙◌, subst, inl, inr, ⊎_elim, arith}
use Rattle.rule.specs.declared.Rule.{Rule}
use Rattle.store.specs.declared.Entry.{Entry}
use Rattle.law.specs.Operations.{latest}
use Rattle.law.specs.Changes.{Change, pending as is_pending_change}
use Rattle.law.specs.Accounts.{Account, changed, pending_of, strikes}
use Rattle.law.specs.Accounts.{after as then}
use Rattle.law.proofs.Lists.{all_kept}
use Rattle.law.proofs.Places.{places_kept}
use Rattle.std.proofs.lemmas.Bool.Decides.{nat_tests}
use Rattle.calls.specs.State.{pending, Session, State}
use Rattle.calls.proofs.Tools.{changed_keeps, changed_there, any_kept}
use Rattle.calls.proofs.Invariant.{DeskIn, ChangeOk, Matches, Known, Inv}
use Rattle.calls.specs.Words.{abort}
use Rattle.calls.specs.Effects.{effect, aborted, own_pending}
use Rattle.calls.proofs.kept.Strikes.{struck_settled, struck_works}

other_session : (s : ℕ) (c : Change Rule) → not (pending_of s c) ≡ true → is_pending_change c ≡ true → c.session ≡ s → ⊥
other_session s c e p q = grind (arith, nat_tests)

pub abort_ok : (first : List Entry) (b : State) (a : Account Rule) (s : ℕ) → Inv first b a → Inv first (effect b (abort s)) (then (strikes s) a)
abort_ok first b a s inv = record {
  settled =
      struck_settled first b.entries b.queue (filter (λ q. not (own_pending s q)) b.queue) b.threshold s a.accepted inv.settled
      (all_kept (Known b.queue b.threshold) (Known (filter (λ q. not (own_pending s q)) b.queue) b.threshold) (λ c. not (pending_of s c))
      (λ c e. ⊎_elim (λ f. inl f)
      (λ h. inr
      (any_kept (Matches c) (λ q. not (own_pending s q))
      (λ q m. ap not (ap (λ v. v && eqb q.session s) m.waits ∙ ap (λ z. is_pending_change c && eqb z s) m.session) ∙ e)
      b.queue h)))
      a.accepted inv.known);
  changes =
      all_kept (ChangeOk (length first) (λ t. (b.sessions t).work)) (ChangeOk (length first) (λ t. (changed s aborted b.sessions t).work))
      (λ c. not (pending_of s c))
      (λ c e ok. record {
        written_read = ok.written_read;
        inside = ok.inside;
        mine =
            λ p. subst (λ (z : Session). (z.work.phase ≡ pending) × ((x : ℕ) → z.work.staged x ≡ latest c.ops x))
            (sym (changed_there s aborted b.sessions c.session (other_session s c e p))) (ok.mine p);
      }) a.accepted inv.changes;
  desks = changed_keeps (λ t p. DeskIn first b a t p.desk) s aborted b.sessions inv.desks (λ ok. ok);
  works = struck_works b a s aborted refl inv.works;
  places = places_kept (strikes s) a inv.places;
}
