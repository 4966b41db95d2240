-- Tests that every lawful history passes, so that one that fails a test is not lawful. Assumes nothing.
use Rattle.std.proofs.Common.{◌≡◌, ℕ, zero, suc, ◌<◌, Bool, true, false, not, ◌&&◌, eqb, List, [], ◌∷◌, set, Some, None, Option, sym, refl, ap, ◌∙◌, arith}
use Rattle.std.specs.List.{slice_get, flat_map, AllByRecursion}
use Rattle.std.proofs.lemmas.Bool.{and_from, both_ways, eq-eqb}
use Rattle.rule.specs.declared.Rule.{Rule}
use Rattle.store.specs.declared.Entry.{Entry}
use Rattle.store.specs.declared.Entry.TheVariants.{Intact, Broken}
use Rattle.law.specs.Operations.{Operation, reading, writing, Serial, nothing, then_reading, then_writing}
use Rattle.law.specs.Changes.{Change, committed_of}
use Rattle.law.specs.Orders.{Ascending, earlier_stamp, in_stamp_order}
use Rattle.law.specs.Accounts.{Outcome, accepted, stale, withheld, Step, begins, takes, reads, writes, forwards, commits, strikes, passes, Account, account, stale_at}
use Rattle.law.specs.Law.{Law, RightOutcome, RightStep, StaleExactly}

-- entries told apart by the address of their rules
abbrev mark : Option Entry → ℕ
mark None = 0
mark (Some (Broken d)) = 1
mark (Some (Intact r)) = suc (suc r.address)

abbrev run : List Entry → List (Operation Rule) → List Entry
run l [] = l
run l (reading x r ∷ ops) = run l ops
run l (writing x r ∷ ops) = set (run l ops) x (Intact r)

abbrev reads_right : List Entry → List (Operation Rule) → Bool
reads_right l [] = true
reads_right l (reading x r ∷ ops) = eqb (mark (slice_get (run l ops) x)) (mark (Some (Intact r))) && reads_right l ops
reads_right l (writing x r ∷ ops) = reads_right l ops

-- the marks of the slots below n
abbrev same_below : ℕ → List Entry → List Entry → Bool
same_below zero l k = true
same_below (suc n) l k = eqb (mark (slice_get l n)) (mark (slice_get k n)) && same_below n l k

serial_run : (l : List Entry) (ops : List (Operation Rule)) (k : List Entry) → Serial Intact l ops k → (k ≡ run l ops) × (reads_right l ops ≡ true)
serial_run l [] k nothing = (refl, refl)
serial_run l (reading x r ∷ ops) k (then_reading _ _ s e) =
    let h = serial_run l ops k s in
    (h.0, and_from _ _ (eq-eqb _ _ (ap (λ z. mark (slice_get z x)) (sym h.0) ∙ ap mark e)) h.1)
serial_run l (writing x r ∷ ops) k (then_writing {before = b} _ _ s lt e) =
    let h = serial_run l ops b s in
    (e ∙ ap (λ z. set z x (Intact r)) h.0, h.1)

same_all : (n : ℕ) (l k : List Entry) → l ≡ k → same_below n l k ≡ true
same_all zero l k e = refl
same_all (suc n) l k e = and_from _ _ (eq-eqb _ _ (ap (λ z. mark (slice_get z n)) e)) (same_all n l k e)

-- the operations give these entries, as far as the first four slots tell
abbrev pub runs_to : List Entry → List (Operation Rule) → List Entry → Bool
runs_to l ops k = same_below 4 k (run l ops) && reads_right l ops

abbrev all_earlier : Change Rule → List (Change Rule) → Bool
all_earlier c [] = true
all_earlier c (b ∷ bs) = earlier_stamp b c && all_earlier c bs

abbrev ascends : List (Change Rule) → Bool
ascends [] = true
ascends (c ∷ cs) = all_earlier c cs && ascends cs

earlier_all : (c : Change Rule) (bs : List (Change Rule)) → AllByRecursion (λ b. earlier_stamp b c ≡ true) bs → all_earlier c bs ≡ true
earlier_all c [] alls = refl
earlier_all c (b ∷ bs) alls = and_from _ _ alls.0 (earlier_all c bs alls.1)

ascending_ascends : (cs : List (Change Rule)) → Ascending cs → ascends cs ≡ true
ascending_ascends [] up = refl
ascending_ascends (c ∷ cs) up = and_from _ _ (earlier_all c cs up.0) (ascending_ascends cs up.1)

-- none of the slots below n is stale
abbrev none_stale : ℕ → Account Rule → ℕ → Bool
none_stale zero a s = true
none_stale (suc n) a s = not (stale_at a s n) && none_stale n a s

none_stale_from : (n : ℕ) (a : Account Rule) (s : ℕ) → ((x : ℕ) → x < n → stale_at a s x ≡ false) → none_stale n a s ≡ true
none_stale_from zero a s f = refl
none_stale_from (suc n) a s f = and_from _ _ (ap not (f n (omega arith))) (none_stale_from n a s (λ x lt. f x (omega arith)))

abbrev right_outcome : Account Rule → ℕ → Outcome → Bool
right_outcome a s accepted = none_stale 4 a s
right_outcome a s (stale x) = stale_at a s x && none_stale x a s
right_outcome a s withheld = none_stale 4 a s

outcome_right : (a : Account Rule) (s : ℕ) (o : Outcome) → RightOutcome a s o → right_outcome a s o ≡ true
outcome_right a s accepted f = none_stale_from 4 a s (λ x _. f x)
outcome_right a s (stale x) f = and_from _ _ f.0 (none_stale_from x a s f.1)
outcome_right a s withheld f = none_stale_from 4 a s (λ x _. f x)

abbrev right_step : Account Rule → Step Rule → Bool
right_step a (begins s) = true
right_step a (takes s x) = true
right_step a (reads s x r) = true
right_step a (writes s x r) = true
right_step a (forwards s k o) = right_outcome a s o
right_step a (commits s) = true
right_step a (strikes s) = true
right_step a passes = true

step_right : (a : Account Rule) (e : Step Rule) → RightStep a e → right_step a e ≡ true
step_right a (begins s) f = refl
step_right a (takes s x) f = refl
step_right a (reads s x r) f = refl
step_right a (writes s x r) f = refl
step_right a (forwards s k o) f = outcome_right a s o f
step_right a (commits s) f = refl
step_right a (strikes s) f = refl
step_right a passes f = refl

abbrev pub stale_rightly : List (Step Rule) → Bool
stale_rightly [] = true
stale_rightly (e ∷ h) = right_step (account h) e && stale_rightly h

rightly_stale : (h : List (Step Rule)) → StaleExactly h → stale_rightly h ≡ true
rightly_stale [] f = refl
rightly_stale (e ∷ h) f = and_from _ _ (step_right (account h) e f.0) (rightly_stale h f.1)

abbrev all_operations : List (Change Rule) → List (Operation Rule)
all_operations cs = flat_map (λ (c : Change Rule). c.ops) cs

-- the four tests
abbrev pub stamp_test : List Entry → List (Step Rule) → List Entry → Bool
stamp_test first h last = runs_to first (all_operations (in_stamp_order (committed_of (account h).accepted))) last

abbrev pub acceptance_test : List Entry → List (Step Rule) → List Entry → Bool
acceptance_test first h last = runs_to first (all_operations (committed_of (account h).accepted)) last

abbrev pub once_test : List (Step Rule) → Bool
once_test h = ascends (in_stamp_order (committed_of (account h).accepted))

run_passes : (l : List Entry) (ops : List (Operation Rule)) (k : List Entry) → Serial Intact l ops k → runs_to l ops k ≡ true
run_passes l ops k s = let h = serial_run l ops k s in and_from _ _ (same_all 4 k (run l ops) h.0) h.1

module _ (first : List Entry) (h : List (Step Rule)) (last : List Entry) where
  pub fails_by_stamp : stamp_test first h last ≡ false → Law Intact first h last → ⊥
  fails_by_stamp e law =
      both_ways (stamp_test first h last) e
      (run_passes first (all_operations (in_stamp_order (committed_of (account h).accepted))) last law.by_stamp.explains)

  pub fails_by_acceptance : acceptance_test first h last ≡ false → Law Intact first h last → ⊥
  fails_by_acceptance e law =
      both_ways (acceptance_test first h last) e
      (run_passes first (all_operations (committed_of (account h).accepted)) last law.by_acceptance.explains)

  pub fails_stamps_once : once_test h ≡ false → Law Intact first h last → ⊥
  fails_stamps_once e law =
      both_ways (once_test h) e (ascending_ascends (in_stamp_order (committed_of (account h).accepted)) law.by_stamp.ascending)

  pub fails_staleness : stale_rightly h ≡ false → Law Intact first h last → ⊥
  fails_staleness e law = both_ways (stale_rightly h) e (rightly_stale h law.stale_exactly)
