-- One slot's part in a commit. Assumes nothing.
use Rattle.std.specs.Prelude.{ℕ, cond, List, is_some, Some, None, Option}
use Rattle.refusal.specs.declared.Refusal.{Refusal}
use Rattle.rule.specs.declared.Rule.{Rule}
use Rattle.store.specs.declared.Entry.{Entry}
use Rattle.store.specs.Entries.{got, put_into}
use Rattle.calls.specs.Checks.{refusal_of}

-- what the store refuses of a slot, if a rule is staged for it
abbrev pub slot_cause : (ℕ → Option Rule) → List Entry → ℕ → Option Refusal
slot_cause staged l x = cond (is_some (staged x)) (refusal_of (got l x)) None

-- the entries after the put of the rule staged for a slot, if there is one
abbrev pub slot_put : (ℕ → Option Rule) → List Entry → ℕ → List Entry
slot_put staged l x = elim (staged x) [ Some r ↦ put_into l x r | None ↦ l ]
