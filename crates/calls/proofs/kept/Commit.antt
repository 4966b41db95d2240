-- A commit keeps the invariant, and is never refused by its store. Assumes nothing.
use Rattle.std.proofs.Common.{◌≡◌, ℕ, ◌<◌, ◌≤◌, Bool, true, false, cond, not, ◌&&◌, ◌||◌, eqb, ltb, List, ◌∷◌, map, length, is_some, Some, None, Option, sym, refl, ap, ◌∙◌, subst, inl, inr, ⊎_elim, arith}
use Rattle.std.specs.Option.{option_or}
use Rattle.std.specs.List.{slice_get, AllByRecursion}
use Rattle.std.proofs.lemmas.Bool.{cond_both, lt-ltb, eq-eqb, ne_eqb, and_from, and_parts, and_left, cases_Bool, cond-true, cond-false, false_from_ne_true}
use Rattle.std.proofs.lemmas.Option.{none-some}
use Rattle.rule.specs.declared.Rule.{Rule}
use Rattle.store.specs.declared.Entry.{Entry}
use Rattle.store.specs.declared.Entry.TheVariants.{Intact}
use Rattle.law.specs.Operations.{latest}
use Rattle.law.specs.Changes.{Change}
use Rattle.law.specs.Accounts.{Draft, Replacing, Account, commit_at, replaced_by, replaced_after, replaced_since, commits}
use Rattle.law.specs.Accounts.{after as then}
use Rattle.law.proofs.Lists.{all_map, pairs_map, inside}
use Rattle.law.proofs.Runs.{over}
use Rattle.law.proofs.Places.{places_kept}
use Rattle.std.proofs.lemmas.Bool.Decides.{nat_tests}
use Rattle.calls.specs.State.{Phase, idle, opened, pending, Desk, Work, Session, State, held, written}
use Rattle.calls.proofs.Tools.{some_is, none_is, any_map, each_session}
use Rattle.calls.proofs.Sets.{below_any}
use Rattle.calls.proofs.Invariant.{has_pending, DeskOk, PendingOk, ByPhase, WorkOk, ChangeOk, Between, Matches, Known, Inv}
use Rattle.calls.specs.Words.{commit}
use Rattle.calls.specs.Checks.{count, desk_of, work_of, refused_get}
use Rattle.calls.specs.Effects.{effect, puts, replaced, number_after, committed, notified, finished}
use Rattle.calls.proofs.kept.Phases.{in_phase}
use Rattle.calls.proofs.kept.Desks.{none_after}
use Rattle.calls.proofs.kept.Commits.{
  Mine,
  all_mine,
  commit_holds,
  commit_right,
  replaced_is,
  two_pending,
  commit_has,
  still_pending,
  not_pending_still,
  finished_waits,
  Sound,
  puts_at,
  length_puts,
  none_refused,
}

-- the log after a commit
abbrev noted : ℕ → ℕ → (ℕ → Bool) → List Replacing → List Replacing
noted s p slots log = record { session = s; place = p; slots = slots } ∷ log

module _ (n : ℕ) (before after' : List Entry) (number raised : ℕ) (log : List Replacing) (s p : ℕ) (slots : ℕ → Bool) (staged : ℕ → Option Rule)
    (is : (x : ℕ) → slots x ≡ is_some (staged x)) (holds : (x : ℕ) → slice_get after' x ≡ over Intact (staged x) (slice_get before x))
    (grows : number ≤ raised) where
  -- the committing session
  own_desk : (taken : ℕ → Option ℕ) (d : Desk) → ((x : ℕ) → is_some (staged x) ≡ true → d.notices x ≡ None)
      → ((x : ℕ) → is_some (staged x) ≡ true → x < n) → AllByRecursion (λ (e : Replacing). e.place < p) log
      → DeskOk n before number log s taken d
      → DeskOk n after' raised (noted s p slots log) s (λ x. cond (slots x) (Some p) (taken x))
      (record { copies = λ x. option_or (staged x) (d.copies x); notices = d.notices; learnt = d.learnt })
  own_desk taken d calm within old ok = record {
    true_copy = λ x r e z. holds x ∙ copied (staged x) (d.copies x) x r z e;
    inside = λ x h. ⊎_elim (λ w. within x w) (λ w. ok.inside x (was_held x w h)) (cases_Bool (is_some (staged x)));
    told = λ x h. ⊎_elim
        (λ w. ap is_some (calm x w) ∙ sym (none_after log s x p old) ∙ sym (own_ignored x (Some p))
        ∙ ap (λ v. replaced_since (noted s p slots log) s x (cond v (Some p) (taken x))) (sym (is x ∙ w)))
        (λ w. ok.told x (was_held x w h) ∙ sym (own_ignored x (taken x))
        ∙ ap (λ v. replaced_since (noted s p slots log) s x (cond v (Some p) (taken x))) (sym (is x ∙ w)))
        (cases_Bool (is_some (staged x)));
    taken_once =
        λ x h. cond_both (slots x) (Some p) (taken x) (λ o. is_some o ≡ true) (λ _. refl) (λ e. ok.taken_once x (was_held x (sym (is x) ∙ e) h));
    not_learnt =
        λ x k h e. ⊎_elim (λ w. absurd (none-some k (sym (calm x w) ∙ e))) (λ w. ok.not_learnt x k (was_held x w h) e)
        (cases_Bool (is_some (staged x)));
    within = λ x k e. let le = ok.within x k e in omega arith;
    learnt_within = let le = ok.learnt_within in omega arith;
  }
    where
      was_held : (x : ℕ) → is_some (staged x) ≡ false → is_some (option_or (staged x) (d.copies x)) ≡ true → held d x ≡ true
      was_held x w h = ap (λ o. is_some (option_or o (d.copies x))) (sym (none_is (staged x) w)) ∙ h

      copied : (o c : Option Rule) (x : ℕ) (r : Rule) → d.notices x ≡ None → option_or o (d.copies x) ≡ Some r
          → over Intact o (slice_get before x) ≡ Some (Intact r)
      copied None c x r z e = ok.true_copy x r e z
      copied (Some q) c x r z e = let same : q ≡ r = cc in ap (λ y. Some (Intact y)) same

      own_ignored : (x : ℕ) (o : Option ℕ) → replaced_since (noted s p slots log) s x o ≡ replaced_since log s x o
      own_ignored x None = refl
      own_ignored x (Some q) = ap (λ v. (not v && (slots x && ltb q p)) || replaced_after log s x q) (eq-eqb s s refl)

  -- another session
  other_desk : (t : ℕ) → (t ≡ s → ⊥) → (taken : ℕ → Option ℕ) (d : Desk) → ((x : ℕ) → is_some (staged x) ≡ true → number < raised)
      → ((x q : ℕ) → taken x ≡ Some q → q < p)
      → DeskOk n before number log t taken d
      → DeskOk n after' raised (noted s p slots log) t taken
      (record { copies = d.copies; notices = λ x. cond (is_some (staged x) && held d x) (Some raised) (d.notices x); learnt = d.learnt })
  other_desk t ne taken d rises took ok = record {
    true_copy = λ x r e z. ⊎_elim
        (λ w. absurd
        (none-some raised (sym z ∙ cond-true (is_some (staged x) && held d x) (Some raised) (d.notices x) (and_from _ _ w (ap is_some e)))))
        (λ w. holds x ∙ ap (λ o. over Intact o (slice_get before x)) (none_is (staged x) w)
        ∙ ok.true_copy x r e (sym (cond-false (is_some (staged x) && held d x) (Some raised) (d.notices x) (and_left _ _ w)) ∙ z))
        (cases_Bool (is_some (staged x)));
    inside = ok.inside;
    told = λ x h.
        let tk = some_is (taken x) (ok.taken_once x h) in
        noticed_is (is_some (staged x)) (held d x) (d.notices x) h
        ∙ ap (λ v. is_some (staged x) || v) (ok.told x h ∙ ap (replaced_since log t x) tk.1)
        ∙ ap (λ v. v || replaced_after log t x tk.0) (sym (other_counts x tk.0 (took x tk.0 tk.1)))
        ∙ ap (replaced_since (noted s p slots log) t x) (sym tk.1);
    taken_once = ok.taken_once;
    not_learnt = λ x k h. cond_both (is_some (staged x) && held d x) (Some raised) (d.notices x) (λ o. o ≡ Some k → d.learnt < k)
        (λ w e. let same : raised ≡ k = cc in let up = rises x (and_parts _ _ w).0 in let le = ok.learnt_within in omega arith)
        (λ _ e. ok.not_learnt x k h e);
    within = λ x k. cond_both (is_some (staged x) && held d x) (Some raised) (d.notices x) (λ o. o ≡ Some k → k ≤ raised)
        (λ _ e. let same : raised ≡ k = cc in omega arith) (λ _ e. let le = ok.within x k e in omega arith);
    learnt_within = let le = ok.learnt_within in omega arith;
  }
    where
      noticed_is : (v h : Bool) (o : Option ℕ) → h ≡ true → is_some (cond (v && h) (Some raised) o) ≡ (v || is_some o)
      noticed_is true h o e = ap (λ z. is_some (cond z (Some raised) o)) e
      noticed_is false h o e = refl

      other_counts : (x q : ℕ) → q < p → (not (eqb s t) && (slots x && ltb q p)) ≡ is_some (staged x)
      other_counts x q lt =
          ap (λ v. not v && (slots x && ltb q p)) (ne_eqb s t (λ e. ne (sym e))) ∙ ap (λ v. slots x && v) (lt-ltb q p lt) ∙ last (slots x) ∙ is x
        where
          last : (v : Bool) → (v && true) ≡ v
          last true = refl
          last false = refl

  other_work : (q : Phase) (d : Desk) (draft : Option (Draft Rule)) (has still : Bool) (w : Work) → (has ≡ true → still ≡ true)
      → (has ≡ true → (x : ℕ) → is_some (staged x) ≡ true → written w x ≡ true → ⊥)
      → ByPhase q before d draft has w
      → ByPhase q after'
      (record {
        copies = d.copies;
        notices = λ x. cond (is_some (staged x) && held d x) (Some raised)
            (d.notices x);
        learnt = d.learnt;
      }) draft still w
  other_work idle d draft has still w stays apart ok = ok
  other_work opened d draft has still w stays apart ok = ok
  other_work pending d draft has still w stays apart ok = (
    ok.0,
    stays ok.1,
    record {
      calm =
          λ x e. cond-false (is_some (staged x) && held d x) (Some raised) (d.notices x) (and_left _ _ (false_from_ne_true _ (λ z. apart ok.1 x z e)))
          ∙ ok.2.calm x e;
      sound =
          λ x e. let r = ok.2.sound x e in
          (r.0, holds x ∙ ap (λ o. over Intact o (slice_get before x)) (none_is (staged x) (false_from_ne_true _ (λ z. apart ok.1 x z e))) ∙ r.1);
    },
  )

module _ (first : List Entry) (b : State) (a : Account Rule) (s : ℕ) (inv : Inv first b a) (is : (work_of b s).phase ≡ pending) where
  -- the rules that the commit writes, and what it leaves
  abbrev staged : ℕ → Option Rule
  staged = (work_of b s).staged

  abbrev entries_now : List Entry
  entries_now = puts (count b) staged b.entries

  abbrev log_now : List Replacing
  log_now = noted s a.place (replaced_by s a.accepted) a.replacings

  abbrev accepted_now : List (Change Rule)
  accepted_now = map (commit_at s a.place) a.accepted

  -- the session itself, or another
  abbrev session_now : Bool → ℕ → Session
  session_now v t = cond v (committed (b.sessions t)) (notified (replaced b s) (number_after b s) (b.sessions t))

  abbrev taken_now : Bool → ℕ → ℕ → Option ℕ
  taken_now v t = cond v (λ (x : ℕ). cond (replaced_by s a.accepted x) (Some a.place) (a.taken t x)) (a.taken t)

  -- the pending change of the session
  waiting : (a.drafts s ≡ None) × (has_pending s a.accepted ≡ true) × PendingOk b.entries (desk_of b s).notices (work_of b s)
  waiting = in_phase pending b a s is (inv.works s)

  -- the store has no damage where it writes
  pub store_sound : Sound (work_of b s).staged b.entries
  store_sound = waiting.2.sound

  -- so it is not refused there
  pub never_refused : refused_get (count b) (work_of b s).staged b.entries ≡ None
  never_refused = none_refused (count b) (work_of b s).staged b.entries store_sound

  staged_inside : (x : ℕ) → is_some (staged x) ≡ true → x < count b
  staged_inside x e = inside b.entries x (ap is_some (store_sound x e).1)

  mine_of : (t : ℕ) → AllByRecursion (Mine t (b.sessions t).work.staged) a.accepted
  mine_of t = all_mine (length first) (λ u. (b.sessions u).work) t a.accepted inv.changes

  store_after : (x : ℕ) → slice_get entries_now x ≡ over Intact (staged x) (slice_get b.entries x)
  store_after x = grind (arith, nat_tests, puts_at (count b) staged b.entries store_sound x, staged_inside x)

  slots_are : (x : ℕ) → replaced_by s a.accepted x ≡ is_some (staged x)
  slots_are = replaced_is s staged a.accepted (mine_of s) waiting.1

  rises : (x : ℕ) → is_some (staged x) ≡ true → b.number < number_after b s
  rises x e = grind (arith, below_any (count b) (replaced b s) x (staged_inside x e))

  grows : b.number ≤ number_after b s
  grows = grind arith

  -- the desk of the session
  own_now : DeskOk (length first) entries_now (number_after b s) log_now s (taken_now true s) (session_now true s).desk
  own_now =
      own_desk (length first) b.entries entries_now b.number (number_after b s) a.replacings s a.place (replaced_by s a.accepted) staged
      slots_are store_after grows (a.taken s) (desk_of b s) waiting.2.calm
      (λ x w. let lt = staged_inside x w in let same = inv.size in omega arith) inv.places.logged (inv.desks s)

  -- and that of another
  other_now : (t : ℕ) → (t ≡ s → ⊥)
      → DeskOk (length first) entries_now (number_after b s) log_now t (taken_now false t) (session_now false t).desk
  other_now t ne =
      other_desk (length first) b.entries entries_now b.number (number_after b s) a.replacings s a.place (replaced_by s a.accepted) staged
      slots_are store_after grows t ne (a.taken t) (b.sessions t).desk rises (inv.places.took t) (inv.desks t)

  -- the change of another session
  work_now : (t : ℕ) → (t ≡ s → ⊥) → (q : Phase) → ByPhase q b.entries (b.sessions t).desk (a.drafts t) (has_pending t a.accepted) (b.sessions t).work
      → ByPhase q entries_now (session_now false t).desk (a.drafts t) (has_pending t accepted_now) (b.sessions t).work
  work_now t ne q =
      other_work (length first) b.entries entries_now b.number (number_after b s) a.replacings s a.place (replaced_by s a.accepted) staged
      slots_are store_after grows q (b.sessions t).desk (a.drafts t) (has_pending t a.accepted) (has_pending t accepted_now) (b.sessions t).work
      (commit_has s t a.place ne a.accepted)
      (λ h. two_pending s t staged (b.sessions t).work.staged ne a.accepted inv.chain (mine_of s) (mine_of t) waiting.1 h)

  -- every accepted change
  change_after : (c : Change Rule) → ChangeOk (length first) (λ t. (b.sessions t).work) c
      → ChangeOk (length first) (λ t. (session_now (eqb t s) t).work) (commit_at s a.place c)
  change_after c ok = record {
    written_read = ok.written_read;
    inside = ok.inside;
    mine = λ p.
        let was = still_pending s a.place c p in
        let other : eqb c.session s ≡ false = grind arith in
        subst (λ v. ((session_now v c.session).work.phase ≡ pending) × ((x : ℕ) → (session_now v c.session).work.staged x ≡ latest c.ops x))
        (sym other) (ok.mine was.0);
  }

  known_after : (c : Change Rule) → Known b.queue b.threshold c → Known (map (finished s) b.queue) b.threshold (commit_at s a.place c)
  known_after c (inl gone) = inl (not_pending_still s a.place c gone.0, gone.1)
  known_after c (inr h) = inr (any_map (Matches c) (Matches (commit_at s a.place c)) (finished s)
      (λ q m. record { key = m.key; session = m.session; reads = m.reads; writes = m.writes; waits = finished_waits s a.place c q m })
      b.queue h)

  between_after : (c d : Change Rule) → Between c d → Between (commit_at s a.place c) (commit_at s a.place d)
  between_after c d bt = record { apart = bt.apart; clear = λ p x w. bt.clear (still_pending s a.place c p).0 x w; rising = bt.rising }

  pub commit_ok : Inv first (effect b (commit s)) (then (commits s) a)
  commit_ok = record {
    settled = record {
      size = length_puts (count b) staged b.entries ∙ inv.size;
      chain = pairs_map Between Between (commit_at s a.place) between_after a.accepted inv.chain;
      right = commit_right s staged (slice_get first) a.place a.accepted inv.chain (mine_of s) inv.right;
      holds = λ x.
          let held = commit_holds s staged (slice_get first) a.place a.accepted inv.chain (mine_of s) x in
          grind (arith, store_after x, inv.holds x, waiting.1);
      known = all_map (Known b.queue b.threshold) (Known (map (finished s) b.queue) b.threshold) (commit_at s a.place) known_after
          a.accepted inv.known;
    };
    changes = all_map (ChangeOk (length first) (λ t. (b.sessions t).work))
        (ChangeOk (length first) (λ t. (session_now (eqb t s) t).work)) (commit_at s a.place) change_after a.accepted inv.changes;
    desks = each_session (λ v t. DeskOk (length first) entries_now (number_after b s) log_now t (taken_now v t) (session_now v t).desk) s own_now
        other_now;
    works = each_session
        (λ v t. WorkOk entries_now (session_now v t).desk (a.drafts t) (has_pending t accepted_now) (session_now v t).work) s waiting.0
        (λ t ne. work_now t ne (b.sessions t).work.phase (inv.works t));
    places = places_kept (commits s) a inv.places;
  }
