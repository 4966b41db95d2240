-- An accepted forward keeps the invariant, and a forward is refused as stale exactly when it should be. Assumes nothing.
use Rattle.std.proofs.Common.{◌≡◌, ℕ, ◌+◌, ◌<◌, Bool, true, false, cond, ◌&&◌, eqb, leb, List, [], ◌∷◌, ◌++◌, length, is_some, Some, None, Option, sym, refl, ap, ◌∙◌, subst, inl, inr, ⊎_elim, arith}
use Rattle.std.specs.Option.{option_map}
use Rattle.std.specs.List.{slice_get, AllByRecursion}
use Rattle.std.proofs.lemmas.Bool.{both_ways, eq-eqb, or_left, or_right, false_from_ne_true}
use Rattle.rule.specs.declared.Rule.{Rule}
use Rattle.store.specs.declared.Entry.{Entry}
use Rattle.store.specs.declared.Entry.TheVariants.{Intact}
use Rattle.law.specs.Operations.{latest, wrote, has_read, touched}
use Rattle.law.specs.Changes.{Key, Change, Clash, earlier, same_key, pending as is_pending_change}
use Rattle.law.specs.Accounts.{Draft, Account, changed, joined_by, pending_of, forwards, accepted, onward, with_drafts, with_accepted}
use Rattle.law.specs.Accounts.{after as then}
use Rattle.law.proofs.Runs.{held_after, right_local}
use Rattle.law.proofs.Places.{places_kept, Places}
use Rattle.law.proofs.Lists.{all_weaker}
use Rattle.calls.specs.Sets.{lowest, any_below, meets}
use Rattle.calls.specs.State.{opened, pending, Session, Queued, State, noticed, written}
use Rattle.calls.proofs.Tools.{changed_keeps, changed_here, some_is, cleared, when_none, option_map_none, any_append, any_last, all_any, each_session}
use Rattle.calls.proofs.Sets.{lowest_none, lowest_some, apart, no_first}
use Rattle.calls.proofs.Invariant.{DeskIn, as_entries, has_pending, OpenOk, WorkOk, ChangeOk, Between, Matches, Known, Inv}
use Rattle.std.proofs.lemmas.Bool.Decides.{nat_tests}
use Rattle.law.specs.Accounts.{stale_at}
use Rattle.law.specs.Law.{NothingStale, LowestStale}
use Rattle.law.proofs.Stamps.{earlier_not_same, earlier_other_way, same_key_flip}
use Rattle.calls.specs.Words.{forward}
use Rattle.calls.specs.Checks.{first_cause, checks, count, not_after, later_clash, pending_clash, owed, last_number, desk_of, work_of}
use Rattle.calls.specs.Effects.{effect, put_forward, entry_of}
use Rattle.calls.proofs.kept.Phases.{changes_kept, opened_is, in_phase}
use Rattle.calls.proofs.kept.Desks.{touched_read, work_weaker}

-- what it says that no check turned a forward away
pub record Accepted (b : State) (s : ℕ) (k : Key) : Type 0 where
  pub is_open : (work_of b s).phase ≡ opened
  pub after_threshold : not_after b.threshold k ≡ false
  pub new_stamp : AllByRecursion (λ (q : Queued). same_key q.key k ≡ false) b.queue
  pub room : leb 32 (length b.queue) ≡ false
  pub no_later_clash : AllByRecursion (λ q. later_clash (count b) k (work_of b s) q ≡ false) b.queue
  pub no_pending_clash : AllByRecursion (λ q. pending_clash (count b) k (work_of b s) q ≡ false) b.queue
  pub not_stale : lowest (count b) (λ x. (work_of b s).read x && noticed (desk_of b s) x) ≡ None
  pub number_left : (any_below (count b) (written (work_of b s)) && eqb (b.number + owed (count b) b.queue) last_number) ≡ false

pub accepted_says : (b : State) (s : ℕ) (k : Key) → first_cause (checks b (forward s k)) ≡ None → Accepted b s k
accepted_says b s k clear =
    let passed = cleared (checks b (forward s k)) clear in
    record {
      is_open = opened_is _ (when_none _ _ (passed 1));
      after_threshold = when_none _ _ (passed 2);
      new_stamp = no_first (λ q. same_key q.key k) b.queue (option_map_none _ _ (passed 3));
      room = when_none _ _ (passed 4);
      no_later_clash = no_first (later_clash (count b) k (work_of b s)) b.queue (option_map_none _ _ (passed 5));
      no_pending_clash = no_first (pending_clash (count b) k (work_of b s)) b.queue (option_map_none _ _ (passed 6));
      not_stale = option_map_none _ _ (passed 7);
      number_left = when_none _ _ (passed 8);
    }

-- a stamp not after the threshold is before one that is
below_threshold : (o : Option Key) (j k : Key) → not_after o j ≡ true → not_after o k ≡ false → earlier j k ≡ true
below_threshold o j k p q = grind (arith, nat_tests)

-- a slot read that has a notice
abbrev stale_read : State → ℕ → ℕ → Bool
stale_read b s x = (work_of b s).read x && noticed (desk_of b s) x

module _ (first : List Entry) (b : State) (a : Account Rule) (s : ℕ) (inv : Inv first b a) (op : (work_of b s).phase ≡ opened) where
  -- the open change of the session
  open_change : (t : Draft Rule) × (a.drafts s ≡ Some t) × OpenOk (desk_of b s).copies (work_of b s) t
  open_change = in_phase opened b a s op (inv.works s)

  -- a slot that it read is inside
  read_inside : (x : ℕ) → (work_of b s).read x ≡ true → x < count b
  read_inside x e = let lt = (inv.desks s).inside x (open_change.2.read_held x e) in let z = inv.size in omega arith

  -- the test of staleness by notices is that of the account
  stale_same : (x : ℕ) → stale_read b s x ≡ stale_at a s x
  stale_same x = grind (arith, open_change.1, open_change.2.reads x, open_change.2.read_held x, (inv.desks s).told x)

  pub nothing_stale : lowest (count b) (stale_read b s) ≡ None → NothingStale a s
  nothing_stale none x = grind (arith, stale_same x, lowest_none (count b) (stale_read b s) none x, read_inside x)

  pub lowest_stale : (x : ℕ) → lowest (count b) (stale_read b s) ≡ Some x → LowestStale a s x
  lowest_stale x is =
      let low = lowest_some (count b) (stale_read b s) x is in
      (sym (stale_same x) ∙ low.passes, λ y lt. sym (stale_same y) ∙ low.none_below y lt)

-- nothing is to be said against an entry
pub record Free (b : State) (s : ℕ) (k : Key) (q : Queued) : Type 0 where
  pub new_stamp : same_key q.key k ≡ false
  pub no_later : later_clash (count b) k (work_of b s) q ≡ false
  pub no_pending : pending_clash (count b) k (work_of b s) q ≡ false

all_free : (b : State) (s : ℕ) (k : Key) (qs : List Queued) → AllByRecursion (λ (q : Queued). same_key q.key k ≡ false) qs
    → AllByRecursion (λ q. later_clash (count b) k (work_of b s) q ≡ false) qs → AllByRecursion (λ q. pending_clash (count b) k (work_of b s) q ≡ false) qs
    → AllByRecursion (Free b s k) qs
all_free b s k [] x y z = tt
all_free b s k (q ∷ qs) x y z = (record { new_stamp = x.0; no_later = y.0; no_pending = z.0 }, all_free b s k qs x.1 y.1 z.1)

module _ (first : List Entry) (b : State) (a : Account Rule) (s : ℕ) (k : Key) (inv : Inv first b a) (ac : Accepted b s k) where
  op : (work_of b s).phase ≡ opened
  op = ac.is_open

  abbrev draft : Draft Rule
  draft = (open_change first b a s inv op).0

  drafted : a.drafts s ≡ Some draft
  drafted = (open_change first b a s inv op).1

  ok : OpenOk (desk_of b s).copies (work_of b s) draft
  ok = (open_change first b a s inv op).2

  -- the change as it is accepted
  abbrev new : Change Rule
  new = record { session = s; key = k; began = draft.began; ops = draft.ops; committed = None }

  -- a slot touched is a slot read, and is inside
  touches_read : (x : ℕ) → touched draft.ops x ≡ true → (work_of b s).read x ≡ true
  touches_read x t = ok.reads x ∙ touched_read draft.ops ok.written_read x t

  within : (x : ℕ) → (work_of b s).read x ≡ true → x < count b
  within = read_inside first b a s inv op

  -- a slot read has no notice, and its copy is the store's rule
  calm : (x : ℕ) → (work_of b s).read x ≡ true → (desk_of b s).notices x ≡ None
  calm x r = grind (arith, lowest_none (count b) (stale_read b s) ac.not_stale x, within x)

  true_read : (x : ℕ) → (work_of b s).read x ≡ true → (c : Rule) × ((desk_of b s).copies x ≡ Some c) × (slice_get b.entries x ≡ Some (Intact c))
  true_read x r = let c = some_is ((desk_of b s).copies x) (ok.read_held x r) in (c.0, c.1, (inv.desks s).true_copy x c.0 c.1 (calm x r))

  true_entries : (x : ℕ) → touched draft.ops x ≡ true → as_entries (desk_of b s).copies x ≡ held_after Intact (slice_get first) a.accepted x
  true_entries x t = let c = true_read x (touches_read x t) in ap (option_map Intact) c.1 ∙ sym c.2 ∙ inv.holds x

  -- a pending entry does not write what the change touches
  entry_clear : (c : Change Rule) (q : Queued) → Matches c q → Free b s k q → q.pending ≡ true → (x : ℕ) → wrote c.ops x ≡ true
      → touched draft.ops x ≡ true → ⊥
  entry_clear c q m free p x w t =
      let r = touches_read x t in
      let lt = within x r in
      let other = earlier_other_way k q.key (same_key_flip q.key k free.new_stamp) in
      let no_meet : meets (count b) q.written (work_of b s).read ≡ false = grind (arith, free.no_later, free.no_pending) in
      apart (count b) q.written (work_of b s).read no_meet x lt (m.writes x ∙ w) r

  -- a clashing entry has an earlier stamp
  entry_rises : (c : Change Rule) (q : Queued) → ChangeOk (length first) (λ t. (b.sessions t).work) c → Matches c q → Free b s k q → Clash c new
      → earlier c.key k ≡ true
  entry_rises c q good m free clash =
      let x = clash.0 in
      let r = touches_read x in
      let read = touched_read c.ops good.written_read x in
      let other = earlier_other_way q.key k free.new_stamp in
      ap (λ z. earlier z k) (sym m.key)
      ∙ grind (
        arith,
        other,
        free.no_later,
        clash.1,
        r,
        within x,
        read,
        good.inside x,
        inv.size,
        m.writes x,
        m.reads x,
        ok.stages x,
        apart (count b) q.written (work_of b s).read,
        apart (count b) q.read (written (work_of b s)),
      )

  between : (c : Change Rule) → ChangeOk (length first) (λ t. (b.sessions t).work) c → Known b.queue b.threshold c → Between c new
  between c good (inl gone) =
      let up = below_threshold b.threshold c.key k gone.1 ac.after_threshold in
      record { apart = earlier_not_same c.key k up; clear = λ p x w. absurd (both_ways (is_pending_change c) gone.0 p); rising = λ _. up }
  between c good (inr h) =
      let free = all_free b s k b.queue ac.new_stamp ac.no_later_clash ac.no_pending_clash in
      record {
        apart = all_any (Free b s k) (Matches c) (λ q f m. ap (λ z. same_key z k) (sym m.key) ∙ f.new_stamp) b.queue free h;
        clear =
            λ p x w. false_from_ne_true _ (λ t. all_any (Free b s k) (Matches c) (λ q f m. entry_clear c q m f (m.waits ∙ p) x w t) b.queue free h);
        rising = λ clash. all_any (Free b s k) (Matches c) (λ q f m. entry_rises c q good m f clash) b.queue free h;
      }

  all_between : (cs : List (Change Rule)) → AllByRecursion (ChangeOk (length first) (λ t. (b.sessions t).work)) cs → AllByRecursion (Known b.queue b.threshold) cs
      → AllByRecursion (λ c. Between c new) cs
  all_between [] x y = tt
  all_between (c ∷ cs) x y = (between c x.0 y.0, all_between cs x.1 y.1)

  written_seen : (x : ℕ) → written (work_of b s) x ≡ true → (work_of b s).read x ≡ true
  written_seen x w = touches_read x (or_right (has_read draft.ops x) _ (ap is_some (sym (ok.stages x)) ∙ w))

  -- this session waits, the others stay
  abbrev after_forward : Bool → ℕ → Session
  after_forward v t = cond v (put_forward (b.sessions t)) (b.sessions t)

  new_ok : ChangeOk (length first) (λ t. (changed s put_forward b.sessions t).work) new
  new_ok = record {
    written_read = ok.written_read;
    inside = λ x e. let lt = within x (ok.reads x ∙ e) in let z = inv.size in omega arith;
    mine =
        λ _. subst (λ (p : Session). (p.work.phase ≡ pending) × ((x : ℕ) → p.work.staged x ≡ latest draft.ops x))
        (sym (changed_here s put_forward b.sessions)) (refl, ok.stages);
  }

  abbrev queue_now : List Queued
  queue_now = b.queue ++ entry_of s k (work_of b s) ∷ []

  new_known : Known queue_now b.threshold new
  new_known =
      inr (any_last (Matches new) b.queue (entry_of s k (work_of b s))
      (record { key = refl; session = refl; reads = ok.reads; writes = λ x. ap is_some (ok.stages x); waits = refl }))

  old_known : AllByRecursion (Known queue_now b.threshold) a.accepted
  old_known =
      all_weaker (Known b.queue b.threshold) (Known queue_now b.threshold)
      (λ c. ⊎_elim (λ f. inl f) (λ h. inr (any_append (Matches c) b.queue (entry_of s k (work_of b s) ∷ []) h))) a.accepted inv.known

  -- the account afterwards, by the draft that it had of the session
  abbrev account_now : Option (Draft Rule) → Account Rule
  account_now o = onward (with_drafts (changed s (λ _. None) a.drafts) (with_accepted (joined_by a.accepted s k o) a))

  pub forward_ok : Inv first (effect b (forward s k)) (then (forwards s k accepted) a)
  forward_ok = subst (λ o. Inv first (effect b (forward s k)) (account_now o)) (sym drafted) (record {
    settled = record {
      size = inv.size;
      chain = (all_between a.accepted inv.changes inv.known, inv.chain);
      right = (
        right_local Intact (as_entries (desk_of b s).copies) (held_after Intact (slice_get first) a.accepted) draft.ops true_entries
            ok.right,
        inv.right,
      );
      holds = inv.holds;
      known = (new_known, old_known);
    };
    changes = (new_ok, changes_kept (length first) s put_forward b.sessions (λ e. cc) a.accepted inv.changes);
    desks = changed_keeps (λ t p. DeskIn first b a t p.desk) s put_forward b.sessions inv.desks (λ ok. ok);
    works = each_session
        (λ v t. WorkOk b.entries (after_forward v t).desk (cond v None (a.drafts t)) (has_pending t (new ∷ a.accepted)) (after_forward v t).work) s (
          refl,
          or_left _ _ (eq-eqb s s refl),
          record {
            calm = λ x w. calm x (written_seen x w);
            sound = λ x w. let c = true_read x (written_seen x w) in (c.0, c.2);
          },
        )
        (λ t _. work_weaker b a t (has_pending t (new ∷ a.accepted)) (b.sessions t).work.phase (λ h. or_right (pending_of t new) _ h) (inv.works t));
    places = subst (λ o. Places (account_now o)) drafted (places_kept (forwards s k accepted) a inv.places);
  })
