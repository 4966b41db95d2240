use Rattle.std.proofs.Common.{ap, rules}
use Rattle.rule.proofs.Fields.{fields_split, fields_unsplit}
use Rattle.line.specs.Cutting.{placed}
use Rattle.line.proofs.cutting.CutterIterator.next.Goals as goal

pub returns-in-Some : goal.returns-in-Some
returns-in-Some c =
    let steps = ap (placed c.in_ok-part.part.at) (fields_split c.in_ok-part.part.bytes.now _ _ c.in-Some.ensures).0 in
    search (rules, steps)

pub returns-in-None : goal.returns-in-None
returns-in-None c =
    let steps = ap (placed c.in_ok-part.part.at) (fields_unsplit c.in_ok-part.part.bytes.now c.in-None.ensures).0 in
    search (rules, steps)
