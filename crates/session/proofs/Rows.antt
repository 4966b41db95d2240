-- The table of sessions, record by record. Assumes nothing.
use Rattle.std.proofs.Common.{◌≡◌, ℕ, ◌<◌, ◌≤◌, Bool, true, false, cond, ◌&&◌, eqb, ltb, List, map, length, get_or, set, Some, None, Option, sym, refl, ap, ◌∙◌, ⊎_elim}
use mathlib.Core.Path.{fun_ext}
use lib.ListN.{length-map}
use Rattle.std.specs.Option.{unwrap_or}
use Rattle.std.proofs.lemmas.Bool.{cases_lt, cases_eq, eq-eqb, ne_eqb, lt-ltb, le-ltb, cond_below, cond_above}
use Rattle.std.proofs.lemmas.List.{get_or-map, map-set, get_or-set_same, get_or-set_other}
use Rattle.std.proofs.lemmas.Option.{slice_get_within, get_or_from_slice_get}
use Rattle.law.specs.Accounts.{changed}
use Rattle.tables.specs.Meaning.{below}
use Rattle.tables.proofs.Tables.{changed_here, changed_other}
use Rattle.calls.specs.State.{Session, fresh, no_work}
use Rattle.calls.specs.Effects.{committed, notified}
use Rattle.session.specs.declared.Record.{Record}
use Rattle.session.specs.Views.{view, sessions_of, after_commit, Changed}

inside : (rs : List Record) (s : ℕ) → s < 8 → sessions_of rs s ≡ get_or (map view rs) s fresh
inside rs s l = ap (λ b. cond b (get_or (map view rs) s fresh) fresh) (lt-ltb s 8 l)

pub past_records : (rs : List Record) (t : ℕ) → 8 ≤ t → sessions_of rs t ≡ fresh
past_records rs t l = ap (λ b. cond b (get_or (map view rs) t fresh) fresh) (le-ltb t 8 l)

pub read_record : (rs : List Record) (s : ℕ) (d : Record) → s < 8 → s < length rs → view (get_or rs s d) ≡ sessions_of rs s
read_record rs s d k l = sym (inside rs s k ∙ get_or-map view rs s d fresh l)

pub write_record : (rs : List Record) (s : ℕ) (r d : Record) (f : Session → Session) → s < 8 → s < length rs → view r ≡ f (view (get_or rs s d)) → sessions_of (set rs s r) ≡ below 8 s (changed s f) (sessions_of rs)
write_record rs s r d f k l e = fun_ext (λ t. ⊎_elim (here t) (other t) (cases_eq t s)) ∙ cond_below s 8 _ _ k
  where
    here : (t : ℕ) → t ≡ s → sessions_of (set rs s r) t ≡ changed s f (sessions_of rs) t
    here t same =
        ap (sessions_of (set rs s r)) same ∙ inside (set rs s r) s k ∙ ap (λ l. get_or l s fresh) (map-set view rs s r)
        ∙ get_or-set_same (map view rs) s (view r) fresh (rw length-map l)
        ∙ e ∙ ap f (read_record rs s d k l ∙ ap (sessions_of rs) (sym same)) ∙ sym (changed_here s t f (sessions_of rs) same)

    other : (t : ℕ) → (t ≡ s → ⊥) → sessions_of (set rs s r) t ≡ changed s f (sessions_of rs) t
    other t ne =
        ap (λ x. cond (ltb t 8) x fresh) (ap (λ l. get_or l t fresh) (map-set view rs s r) ∙ get_or-set_other (map view rs) s t (view r) fresh ne)
        ∙ sym (changed_other s t f (sessions_of rs) ne)

same : (b : Bool) (p : Session) → cond b p p ≡ p
same true p = refl
same false p = refl

-- a session changed at a slot, if it is one
slot_apart : (rs : List Record) (s x : ℕ) (f : Session → Session) → below 8 s (changed s (below 64 x f)) (sessions_of rs) ≡ below 8 s (below 64 x (changed s f)) (sessions_of rs)
slot_apart rs s x f = ap (λ g. cond (ltb s 8) g (sessions_of rs)) (fun_ext (λ t. apart (ltb x 64) t))
  where
    apart : (b : Bool) (t : ℕ) → changed s (λ p. cond b (f p) p) (sessions_of rs) t ≡ cond b (changed s f (sessions_of rs)) (sessions_of rs) t
    apart true t = refl
    apart false t = same (eqb t s) (sessions_of rs t)

-- a record changed at a slot, if it is one
pub write_slot : (rs : List Record) (s : ℕ) (r d : Record) (x : ℕ) (f : Session → Session) → s < 8 → s < length rs → view r ≡ below 64 x f (view (get_or rs s d)) → sessions_of (set rs s r) ≡ below 8 s (below 64 x (changed s f)) (sessions_of rs)
write_slot rs s r d x f k l e = write_record rs s r d (below 64 x f) k l e ∙ slot_apart rs s x f

-- a call that does to a record what f does to a session
pub record_changed : {R : Type 0} {call : Record → R → Record → Type 0} {old new : List Record} {s : ℕ} {o : Option R} (f : Session → Session) → Changed call old new s o → ((a : Record) (r : R) (b : Record) → call a r b → view b ≡ f (view a)) → sessions_of new ≡ below 8 s (changed s f) (sessions_of old)
record_changed {old = old} {new = new} {s = s} f c does = ⊎_elim inner outer (cases_lt s 8)
  where
    inner : s < 8 → sessions_of new ≡ below 8 s (changed s f) (sessions_of old)
    inner l =
        let (r, a, b, given, called, here, stored) = c.inside l in
        ap sessions_of stored ∙ write_record old s b a f l (slice_get_within old s a here) (does a r b called ∙ ap (λ x. f (view x)) (sym (get_or_from_slice_get old s a a here)))

    outer : 8 ≤ s → sessions_of new ≡ below 8 s (changed s f) (sessions_of old)
    outer l = cond_above s 8 _ _ _ l (ap sessions_of (c.outside l).1)

pub slot_changed : {R : Type 0} {call : Record → R → Record → Type 0} {old new : List Record} {s : ℕ} {o : Option R} (x : ℕ) (f : Session → Session) → Changed call old new s o → ((a : Record) (r : R) (b : Record) → call a r b → view b ≡ below 64 x f (view a)) → sessions_of new ≡ below 8 s (below 64 x (changed s f)) (sessions_of old)
slot_changed {old = old} {s = s} x f c does = record_changed (below 64 x f) c does ∙ slot_apart old s x f

-- a call that gives what g says of a session; of a session that has done nothing, where there is no such session
pub given_is : {R : Type 0} {call : Record → R → Record → Type 0} {old new : List Record} {s : ℕ} {o : Option R} (g : Session → R) → Changed call old new s o → ((a : Record) (r : R) (b : Record) → call a r b → r ≡ g (view a)) → unwrap_or o (g fresh) ≡ g (sessions_of old s)
given_is {old = old} {s = s} {o = o} g c does = ⊎_elim inner outer (cases_lt s 8)
  where
    inner : s < 8 → unwrap_or o (g fresh) ≡ g (sessions_of old s)
    inner l =
        let (r, a, b, given, called, here, stored) = c.inside l in
        ap (λ x. unwrap_or x (g fresh)) given ∙ does a r b called ∙ ap g (ap view (sym (get_or_from_slice_get old s a a here)) ∙ read_record old s a l (slice_get_within old s a here))

    outer : 8 ≤ s → unwrap_or o (g fresh) ≡ g (sessions_of old s)
    outer l = ap (λ x. unwrap_or x (g fresh)) (c.outside l).0 ∙ ap g (sym (past_records old s l))

no_notice : (b : Bool) (n : ℕ) → cond (b && false) (Some n) None ≡ None
no_notice true n = refl
no_notice false n = refl

-- who holds nothing is told nothing
notified_fresh : (slots : ℕ → Bool) (n : ℕ) → notified slots n fresh ≡ fresh
notified_fresh slots n =
    let none : (λ x. cond (slots x && false) (Some n) None) ≡ (λ (x : ℕ). None) = fun_ext (λ x. no_notice (slots x) n) in
    ap (λ (f : ℕ → Option ℕ). record { desk = record { copies = λ _. None; notices = f; learnt = 0 }; work = no_work }) none

-- past the table nothing happens at a commit, whoever commits
both_fresh : (b : Bool) (slots : ℕ → Bool) (n : ℕ) → cond b (committed fresh) (notified slots n fresh) ≡ fresh
both_fresh true slots n = refl
both_fresh false slots n = notified_fresh slots n

pub commit_past : (rs : List Record) (s : ℕ) (slots : ℕ → Bool) (n : ℕ) (t : ℕ) → 8 ≤ t → after_commit s slots n (sessions_of rs) t ≡ sessions_of rs t
commit_past rs s slots n t l =
    let past = past_records rs t l in
    ap (λ (p : Session). cond (eqb t s) (committed p) (notified slots n p)) past ∙ both_fresh (eqb t s) slots n ∙ sym past

pub commit_here : (s k : ℕ) (slots : ℕ → Bool) (n : ℕ) (f : ℕ → Session) → k ≡ s → committed (f k) ≡ after_commit s slots n f k
commit_here s k slots n f e = sym (ap (λ b. cond b (committed (f k)) (notified slots n (f k))) (eq-eqb k s e))

pub commit_other : (s k : ℕ) (slots : ℕ → Bool) (n : ℕ) (f : ℕ → Session) → (k ≡ s → ⊥) → notified slots n (f k) ≡ after_commit s slots n f k
commit_other s k slots n f ne = sym (ap (λ b. cond b (committed (f k)) (notified slots n (f k))) (ne_eqb k s ne))
