-- The table store: its check, and what its rows mean. Assumes nothing.
use Rattle.std.specs.Prelude.{ℕ, Bool, cond, ◌&&◌, List, [], map, length, is_ok, Some, None, Ok, Err, Option, Result, nat_le, slice_set}
use Rattle.refusal.specs.declared.Refusal.{Refusal}
use Rattle.refusal.specs.declared.Refusal.TheVariants.{WrongSize}
use Rattle.refusal.specs.declared.Fault.TheVariants.{Record}
use Rattle.rule.specs.declared.Parts.{Parts}
use Rattle.rule.specs.declared.Rule.{Rule}
use Rattle.rule.specs.Making.{make, parts_of}
use Rattle.store.specs.declared.Entry.{Entry}
use Rattle.store.specs.declared.Entry.TheVariants.{Intact, Broken}
use Rattle.store.specs.Entries.{got}

-- 1 to 64 rows
abbrev pub right_size : ℕ → Bool
right_size n = nat_le 1 n && nat_le n 64

-- the check before a store is made over n rows
abbrev pub checked : ℕ → Result (Unit {0}) Refusal
checked n = cond (right_size n) (Ok tt) (Err WrongSize)

abbrev pub entry_of : Option Rule → Entry
entry_of (Some r) = Intact r
entry_of None = Broken (record { fault = Record; block = 0 })

-- a row is the rule that its parts make, or damage
abbrev pub row_entry : Parts → Entry
row_entry p = entry_of (make p)

-- what the rows mean: nothing, where the check refuses them
abbrev pub table_entries : List Parts → List Entry
table_entries rows = cond (right_size (length rows)) (map row_entry rows) []

-- the rows after `put` of rule r into slot x
abbrev pub put_row : List Parts → ℕ → Rule → List Parts
put_row rows x r = cond (is_ok (got (table_entries rows) x)) (slice_set rows x (parts_of r)) rows
