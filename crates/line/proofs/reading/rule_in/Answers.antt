use Rattle.std.proofs.Common.{◌≡◌, ℕ, Some, None, Ok, Err, Option, Result, MatchResult, ap, ◌∙◌, arith, rules}
use Rattle.std.specs.Option.{ok_or}
use Rattle.std.specs.Result.{IsErrAnd}
use Rattle.refusal.specs.declared.Refusal.{Refusal}
use Rattle.refusal.specs.declared.Refusal.TheVariants.{NoRule}
use Rattle.rule.specs.declared.Rule.{Rule}
use Rattle.line.proofs.reading.rule_in.Goals as goal

-- parts that make no rule are told at another place
told_at : (Told : Refusal → Refusal → Type 0) (at : ℕ) → ((e d : Refusal) → Told e d → d ≡ NoRule at) → (o : Option Rule) (made result : Result Rule Refusal) → made ≡ ok_or o (NoRule 0) → MatchResult made (λ rule. result ≡ Ok rule) (λ e. IsErrAnd result (Told e)) → result ≡ ok_or o (NoRule at)
told_at Told at is (Some x) (Ok y) r e h = h ∙ e
told_at Told at is (Some x) (Err y) r e h = absurd (grind arith)
told_at Told at is None (Ok y) r e h = absurd (grind arith)
told_at Told at is None (Err y) (Ok x) e h = absurd h
told_at Told at is None (Err y) (Err x) e h = ap Err (is y x h)

pub returns : goal.returns
returns c =
    let made = told_at _ c.place-at.result (λ e d h. search rules) _ _ _ c.try_from.ensures.value c.map_err.ensures.cases in
    search rules
