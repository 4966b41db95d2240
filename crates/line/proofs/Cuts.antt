-- A part of a line cut at its first space. Assumes nothing.
use Rattle.std.proofs.Common.{◌≡◌, ℕ, ◌+◌, List, length, Some, ap}
use Rattle.text.specs.Cutting.{split}
use Rattle.rule.specs.Reading.{fields}
use Rattle.rule.proofs.Fields.{fields_split, some_field}
use Rattle.line.specs.Cutting.{placed}
use Rattle.line.specs.Reading.{place}

pub lengths_split : (bs f rest : List ℕ) → Some (f, rest) ≡ split 32 bs → length bs ≡ length f + (1 + length rest)
lengths_split bs f rest e = (fields_split bs f rest e).1

-- the first field begins where the part begins
pub first_place : (at : ℕ) (bs : List ℕ) → place 0 (placed at (fields bs)) ≡ at
first_place at bs = ap (λ fs. place 0 (placed at fs)) (some_field bs).is
