-- A fetch keeps the invariant. Assumes nothing.
use Rattle.std.proofs.Common.{◌≡◌, ℕ, ◌<◌, false, cond, List, length, Some, None, Ok, Err, Option, refl, ap, arith}
use Rattle.std.specs.List.{slice_get, AllByRecursion}
use Rattle.std.proofs.lemmas.Bool.{leb-false}
use Rattle.rule.specs.declared.Rule.{Rule}
use Rattle.store.specs.declared.Entry.{Entry}
use Rattle.store.specs.declared.Entry.TheVariants.{Intact, Broken}
use Rattle.store.specs.Entries.{got, answer_at}
use Rattle.law.specs.Accounts.{Replacing, Account, changed, takes}
use Rattle.law.specs.Accounts.{after as then}
use Rattle.law.proofs.Places.{places_kept}
use Rattle.std.proofs.lemmas.Bool.Decides.{nat_tests}
use Rattle.calls.specs.State.{pending, Desk, State, held}
use Rattle.calls.proofs.Tools.{by_number, changed_keeps, cleared, when_none}
use Rattle.calls.proofs.Invariant.{WorkIn, DeskOk, Inv}
use Rattle.calls.specs.Words.{fetch}
use Rattle.calls.specs.Checks.{first_cause, checks, count, refusal_of, desk_of, work_of}
use Rattle.calls.specs.Effects.{effect, rule_in, fetched, with_copy, without_notice}
use Rattle.calls.proofs.kept.Phases.{changes_kept, not_pending}
use Rattle.calls.proofs.kept.Desks.{none_after, desk_changed}

-- what the store gives where it refuses nothing
pub given : (l : List Entry) (x : ℕ) → refusal_of (got l x) ≡ None → (r : Rule) × (rule_in l x ≡ Some r) × (slice_get l x ≡ Some (Intact r))
given l x e = go (slice_get l x) refl e
  where
    go : (o : Option Entry) → slice_get l x ≡ o → refusal_of (answer_at o x) ≡ None → (r : Rule) × (rule_in l x ≡ Some r) × (slice_get l x ≡ Some (Intact r))
    go None q d = cc
    go (Some (Intact r)) q d = (r, ap (λ o. elim (answer_at o x) [ Ok z ↦ Some z | Err z ↦ None ]) q, q)
    go (Some (Broken z)) q d = cc

fetched_desk : (n : ℕ) (entries : List Entry) (number : ℕ) (log : List Replacing) (s : ℕ) (taken : ℕ → Option ℕ) (d : Desk) (x p : ℕ)
    (o : Option Rule) (r : Rule)
    → o ≡ Some r → slice_get entries x ≡ Some (Intact r) → x < n → AllByRecursion (λ (e : Replacing). e.place < p) log
    → DeskOk n entries number log s taken d → DeskOk n entries number log s (changed x (λ _. Some p) taken) (without_notice x (with_copy x o d))
fetched_desk n entries number log s taken d x p o r is holds lt old ok = record {
  true_copy = λ y q e z. grind (arith, nat_tests, ok.true_copy y q);
  inside = λ y h. grind (arith, nat_tests, ok.inside y);
  told = λ y h. grind (arith, nat_tests, none_after log s y p old, ok.told y);
  taken_once = λ y h. grind (arith, ok.taken_once y);
  not_learnt = λ y k h e. grind (arith, ok.not_learnt y k);
  within = λ y k e. grind (arith, ok.within y k);
  learnt_within = ok.learnt_within;
}

pub fetch_ok : (first : List Entry) (b : State) (a : Account Rule) (s x : ℕ) → Inv first b a → first_cause (checks b (fetch s x)) ≡ None
    → Inv first (effect b (fetch s x)) (then (takes s x) a)
fetch_ok first b a s x inv clear =
    let passed = cleared (checks b (fetch s x)) clear in
    let free : held (desk_of b s) x ≡ false = when_none _ _ (passed 3) in
    let no_pending : (work_of b s).phase ≡ pending → ⊥ = not_pending _ (when_none _ _ (passed 2)) in
    let g = given b.entries x (passed 4) in
    let o = rule_in b.entries x in
    let lt : x < length first = let h = leb-false (count b) x (when_none _ _ (passed 1)) in let z = inv.size in omega arith in
    let take : (ℕ → Option ℕ) → ℕ → Option ℕ = changed x (λ _. Some a.place) in
    record {
      settled = inv.settled;
      changes = changes_kept (length first) s (fetched x o) b.sessions (λ _. refl) a.accepted inv.changes;
      desks =
          λ t. by_number
          (λ v. DeskOk (length first) b.entries b.number a.replacings t (cond v (take (a.taken t)) (a.taken t))
          (cond v (fetched x o (b.sessions t)) (b.sessions t)).desk) t s
          (λ _. fetched_desk (length first) b.entries b.number a.replacings t (a.taken t) (b.sessions t).desk x a.place o g.0 g.1
          g.2 lt inv.places.logged (inv.desks t))
          (λ _. inv.desks t);
      works = changed_keeps (WorkIn b a) s (fetched x o) b.sessions inv.works
          (desk_changed b a s (fetched x o (b.sessions s)).desk (work_of b s).phase (λ _ y _ h. grind (arith, nat_tests)) (λ p. absurd (no_pending p)));
      places = places_kept (takes s x) a inv.places;
    }
