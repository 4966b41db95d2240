-- What a store does, by the list of entries that it means. Assumes nothing.
use Rattle.std.specs.Prelude.{ℕ, cond, List, [], ◌∷◌, is_ok, Some, None, Ok, Err, Option, Result, slice_set}
use Rattle.std.specs.List.{slice_get}
use Rattle.refusal.specs.declared.Refusal.{Refusal}
use Rattle.refusal.specs.declared.Refusal.TheVariants.{SlotOutsideStore, Damaged}
use Rattle.rule.specs.declared.Rule.{Rule}
use Rattle.store.specs.declared.Entry.{Entry}
use Rattle.store.specs.declared.Entry.TheVariants.{Intact, Broken}

-- a rule, or the refusal of a damage
abbrev pub answer : Entry → Result Rule Refusal
answer (Intact r) = Ok r
answer (Broken d) = Err (Damaged d)

abbrev pub answer_at : Option Entry → ℕ → Result Rule Refusal
answer_at None x = Err (SlotOutsideStore x)
answer_at (Some e) x = answer e

-- what `get` of slot x answers
abbrev pub got : List Entry → ℕ → Result Rule Refusal
got l x = answer_at (slice_get l x) x

-- what `put` answers where `get` would answer this
abbrev pub done : Result Rule Refusal → Result (Unit {0}) Refusal
done (Ok r) = Ok tt
done (Err e) = Err e

-- the entries after `put` of rule r into slot x
abbrev pub put_into : List Entry → ℕ → Rule → List Entry
put_into l x r = cond (is_ok (got l x)) (slice_set l x (Intact r)) l

-- no entry is damaged, or the refusal of the first that is
abbrev pub whole : List Entry → Result (Unit {0}) Refusal
whole [] = Ok tt
whole (Intact r ∷ l) = whole l
whole (Broken d ∷ l) = Err (Damaged d)
