-- The fields that are still to be cut of a line. Assumes nothing.
use Rattle.std.specs.Prelude.{ℕ, ◌≡◌, List}
use Rattle.line.specs.declared.fields.Fields.{Fields}
use Rattle.line.specs.Cutting.{fields_behind, rest_of}

abbrev pub fields_left : Fields → List (ℕ × List ℕ)
fields_left f = fields_behind f.cutter.left

-- the first of them is taken
abbrev pub OneTaken : Fields → Fields → Type 0
OneTaken f g = (fields_left g ≡ rest_of (fields_left f)) × (g.end ≡ f.end)
