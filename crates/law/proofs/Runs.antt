-- Runs of operations by what each slot holds: the same as carrying them out on a list, and easier to argue with. Assumes nothing.
use Rattle.std.proofs.Common.{◌≡◌, ℕ, ◌<◌, Bool, true, false, cond, eqb, List, [], ◌∷◌, ◌++◌, length, set, is_some, Some, None, Option, sym, refl, ap, ◌∙◌, subst}
use Rattle.std.specs.List.{slice_get, flat_map}
use Rattle.std.proofs.lemmas.Bool.{or_right}
use Rattle.law.specs.Operations.{Operation, reading, writing, Serial, nothing, then_reading, then_writing, latest, has_read, touched}
use Rattle.law.specs.Changes.{Change, Explains, committed_of}
use Rattle.law.proofs.Lists.{slice_get-set, inside, same_entries}
use Rattle.law.proofs.Reorder.{wrote_here, touched_here, touched_more}

module _ {R E : Type 0} (intact : R → E) where
  -- what a slot holds after its latest writing, if there was one
  abbrev pub over : Option R → Option E → Option E
  over None e = e
  over (Some r) e = Some (intact r)

  -- every reading is right and every writing is inside, where the slots held `m` before
  abbrev pub Right : (ℕ → Option E) → List (Operation R) → Type 0
  Right m [] = Unit {0}
  Right m (reading x r ∷ ops) = (over (latest ops x) (m x) ≡ Some (intact r)) × Right m ops
  Right m (writing x r ∷ ops) = (is_some (m x) ≡ true) × Right m ops

  -- only the slots touched count
  pub right_local : (m k : ℕ → Option E) (ops : List (Operation R)) → ((x : ℕ) → touched ops x ≡ true → m x ≡ k x) → Right m ops → Right k ops
  right_local m k [] same right = tt
  right_local m k (reading x r ∷ ops) same right = (
    ap (over (latest ops x)) (sym (same x (touched_here x x r ops refl)))
        ∙ right.0,
    right_local m k ops (λ y t. same y (touched_more (reading x r) ops y t)) right.1,
  )
  right_local m k (writing x r ∷ ops) same right = (
    ap is_some (sym (same x (or_right (has_read ops x) _ (wrote_here x x r ops refl))))
        ∙ right.0,
    right_local m k ops (λ y t. same y (touched_more (writing x r) ops y t)) right.1,
  )

  over_some : (o : Option R) (e : Option E) → is_some e ≡ true → is_some (over o e) ≡ true
  over_some None e s = s
  over_some (Some r) e s = refl

  over_cond : (b : Bool) (r : R) (o : Option R) (e : Option E) → cond b (Some (intact r)) (over o e) ≡ over (cond b (Some r) o) e
  over_cond true r o e = refl
  over_cond false r o e = refl

  -- such operations can be carried out
  pub carried_out : (l : List E) (ops : List (Operation R)) → Right (slice_get l) ops
      → (k : List E) × Serial intact l ops k × ((x : ℕ) → slice_get k x ≡ over (latest ops x) (slice_get l x))
  carried_out l [] right = (l, nothing, λ x. refl)
  carried_out l (reading x r ∷ ops) right =
      let run = carried_out l ops right.1 in
      (run.0, then_reading x r run.1 (run.2 x ∙ right.0), run.2)
  carried_out l (writing x r ∷ ops) right =
      let run = carried_out l ops right.1 in
      let lt : x < length run.0 = inside run.0 x (ap is_some (run.2 x) ∙ over_some (latest ops x) (slice_get l x) right.0) in (
        set run.0 x (intact r),
        then_writing x r run.1 lt refl,
        λ y. slice_get-set run.0 x y (intact r) lt ∙ ap (λ o. cond (eqb y x) (Some (intact r)) o) (run.2 y)
            ∙ over_cond (eqb y x) r (latest ops y) (slice_get l y),
      )

  -- one run after another
  pub one_after : (first mid : List E) (as' : List (Operation R)) (bs : List (Operation R)) (last : List E) → Serial intact first as' mid
      → Serial intact mid bs last → Serial intact first (bs ++ as') last
  one_after first mid as' [] last run nothing = run
  one_after first mid as' (reading x r ∷ bs) last run (then_reading _ _ more e) = then_reading x r (one_after first mid as' bs last run more) e
  one_after first mid as' (writing x r ∷ bs) last run (then_writing {before = b} _ _ more lt e) =
      then_writing x r (one_after first mid as' bs b run more) lt e

  -- what a change writes, if it is committed
  abbrev pub written_if : Option ℕ → Option R → Option R
  written_if None o = None
  written_if (Some p) o = o

  -- what a slot holds after the committed ones of some changes
  abbrev pub held_after : (ℕ → Option E) → List (Change R) → ℕ → Option E
  held_after m [] x = m x
  held_after m (c ∷ cs) x = over (written_if c.committed (latest c.ops x)) (held_after m cs x)

  -- each change is right after the committed ones before it
  abbrev pub AllRight : (ℕ → Option E) → List (Change R) → Type 0
  AllRight m [] = Unit {0}
  AllRight m (c ∷ cs) = Right (held_after m cs) c.ops × AllRight m cs

  run_all : (first : List E) (cs : List (Change R)) → AllRight (slice_get first) cs
      → (k : List E) × Explains intact first (committed_of cs) k × ((x : ℕ) → slice_get k x ≡ held_after (slice_get first) cs x)
  run_all first [] right = (first, nothing, λ x. refl)
  run_all first (c ∷ cs) right = go c.committed (run_all first cs right.1)
    where
      go : (o : Option ℕ) → ((k : List E) × Explains intact first (committed_of cs) k × ((x : ℕ) → slice_get k x ≡ held_after (slice_get first) cs x))
          → (k : List E) × Explains intact first (cond (is_some o) (c ∷ committed_of cs) (committed_of cs)) k ×
          ((x : ℕ) → slice_get k x ≡ over (written_if o (latest c.ops x)) (held_after (slice_get first) cs x))
      go None run = run
      go (Some p) run =
          let own = carried_out run.0 c.ops
          (right_local (held_after (slice_get first) cs) (slice_get run.0) c.ops (λ x _. sym (run.2 x)) right.0) in (
            own.0,
            one_after first run.0 (flat_map (λ (d : Change R). d.ops) (committed_of cs)) c.ops own.0 run.1 own.1,
            λ x. own.2 x
                ∙ ap (over (latest c.ops x)) (run.2 x),
          )

  -- so the committed ones explain the list that holds what they left
  pub explained : (first last : List E) (cs : List (Change R)) → AllRight (slice_get first) cs → ((x : ℕ) → slice_get last x ≡ held_after (slice_get first) cs x)
      → Explains intact first (committed_of cs) last
  explained first last cs right holds =
      let run = run_all first cs right in
      subst (Explains intact first (committed_of cs)) (same_entries run.0 last (λ x. run.2 x ∙ sym (holds x))) run.1
