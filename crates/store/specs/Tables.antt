-- The entries of a table, by its rows. Assumes nothing.
use Rattle.std.specs.Prelude.{◌≡◌, ℕ, ◌<◌, ◌≤◌, true, false, List, [], map, length, set, Ok, slice_index_or, slice_set, refl}
use Rattle.std.proofs.Common.{sym, ap, ◌∙◌, ⊎_elim, arith, length-set}
use Rattle.std.proofs.lemmas.Bool.{cond-true, cond-false, cond_both, cases_Bool, and_parts, leb-true}
use Rattle.std.proofs.lemmas.List.{get_or-map, map-set, length-map}
use Rattle.rule.specs.declared.Parts.{Parts}
use Rattle.rule.specs.declared.Rule.{Rule}
use Rattle.rule.specs.Making.{parts_of}
use Rattle.rule.proofs.Rules.{make_parts}
use Rattle.store.specs.declared.Entry.TheVariants.{Intact}
use Rattle.store.specs.Entries.{answer, got, put_into}
use Rattle.store.specs.Table.{right_size, entry_of, row_entry, table_entries}
use Rattle.store.specs.Slots.{got_inside, inside_from_got, put_where_got}

pub counted : (rows : List Parts) → right_size (length rows) ≡ true → table_entries rows ≡ map row_entry rows
counted rows size = cond-true (right_size (length rows)) (map row_entry rows) [] size

pub not_counted : (rows : List Parts) → right_size (length rows) ≡ false → table_entries rows ≡ []
not_counted rows size = cond-false (right_size (length rows)) (map row_entry rows) [] size

pub few_rows : (rows : List Parts) → length (table_entries rows) ≤ 64
few_rows rows = cond_both (right_size (length rows)) (map row_entry rows) [] (λ l. length l ≤ 64) (λ e. simp length-map (leb-true _ _ (and_parts _ _ e).1)) (λ _. omega arith)

-- where a slot has an entry, the rows are counted
sized : (rows : List Parts) (x : ℕ) → x < length (table_entries rows) → right_size (length rows) ≡ true
sized rows x lt = ⊎_elim (λ e. e) (λ e. absurd (omega (arith, ap length (not_counted rows e)))) (cases_Bool (right_size (length rows)))

pub row_within : (rows : List Parts) (x : ℕ) → x < length (table_entries rows) → x < length rows
row_within rows x lt = omega (arith, ap length (counted rows (sized rows x lt)), length-map rows row_entry)

-- the entry of a slot is that of its row
pub got_row : (rows : List Parts) (x : ℕ) (d : Parts) → x < length (table_entries rows) → got (table_entries rows) x ≡ answer (row_entry (slice_index_or rows x d))
got_row rows x d lt =
    got_inside (table_entries rows) x (row_entry d) lt
    ∙ ap (λ l. answer (slice_index_or l x (row_entry d))) (counted rows (sized rows x lt))
    ∙ ap answer (get_or-map row_entry rows x d (row_entry d) (row_within rows x lt))

-- a row with the parts of a rule is an entry with that rule
pub set_row : (rows : List Parts) (x : ℕ) (r : Rule) → x < length (table_entries rows) → table_entries (slice_set rows x (parts_of r)) ≡ slice_set (table_entries rows) x (Intact r)
set_row rows x r lt =
    let size = sized rows x lt in
    counted (slice_set rows x (parts_of r)) (ap right_size (length-set rows x (parts_of r)) ∙ size)
    ∙ map-set row_entry rows x (parts_of r)
    ∙ ap (λ e. set (map row_entry rows) x e) (ap entry_of (make_parts r (parts_of r) refl))
    ∙ ap (λ l. set l x (Intact r)) (sym (counted rows size))

-- where `get` gives a rule, such a row is what `put` comes to
pub put_entries : (rows : List Parts) (x : ℕ) (r q : Rule) → got (table_entries rows) x ≡ Ok q → table_entries (slice_set rows x (parts_of r)) ≡ put_into (table_entries rows) x r
put_entries rows x r q e = set_row rows x r (inside_from_got _ x q e) ∙ sym (put_where_got _ x r q e)
