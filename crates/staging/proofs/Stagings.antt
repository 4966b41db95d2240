-- A commit's walks over the slots, one slot more. Assumes nothing.
use Rattle.std.proofs.Common.{◌≡◌, ℕ, zero, suc, ◌+◌, ◌<◌, List, Some, None, Option, sym, ap, ◌∙◌, ⊎_elim, add-one, arith}
use Rattle.std.specs.Option.{option_or}
use Rattle.std.proofs.lemmas.Bool.{cases_eq}
use Rattle.refusal.specs.declared.Refusal.{Refusal}
use Rattle.rule.specs.declared.Rule.{Rule}
use Rattle.store.specs.declared.Entry.{Entry}
use Rattle.calls.specs.Checks.{refused_get}
use Rattle.calls.specs.Effects.{puts}
use Rattle.staging.specs.Staged.{slot_cause, slot_put}

module _ (staged : ℕ → Option Rule) (l : List Entry) where
  pub refused_more : (n : ℕ) (o : Option Refusal) → refused_get n staged l ≡ None → slot_cause staged l n ≡ o → refused_get (n + 1) staged l ≡ o
  refused_more n o none here = ap (λ k. refused_get k staged l) (add-one n) ∙ ap (λ p. option_or p (slot_cause staged l n)) none ∙ here

  -- what was refused stays the first that is refused
  pub refused_stop : (n k : ℕ) (e : Refusal) → k < n → refused_get k staged l ≡ None → slot_cause staged l k ≡ Some e → refused_get n staged l ≡ Some e
  refused_stop zero k e lt none here = absurd (omega arith)
  refused_stop (suc n) k e lt none here = ⊎_elim
      (λ (same : k ≡ n). ap (λ p. option_or p (slot_cause staged l n)) (ap (λ m. refused_get m staged l) (sym same) ∙ none) ∙ ap (slot_cause staged l) (sym same) ∙ here)
      (λ ne. ap (λ p. option_or p (slot_cause staged l n)) (refused_stop n k e (omega arith) none here))
      (cases_eq k n)

  pub puts_more : (n : ℕ) → puts (n + 1) staged l ≡ slot_put staged (puts n staged l) n
  puts_more n = ap (λ k. puts k staged l) (add-one n)
