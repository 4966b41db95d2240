use Rattle.rule.proofs.Fields.{fields_split, fields_unsplit}
use Rattle.rule.proofs.reading.first_field.Goals as goal

pub returns-in-Some : goal.returns-in-Some
returns-in-Some c = let h = fields_split _ _ _ c.in-Some.ensures in record { cut = h.0; long = h.1 }

pub returns-in-None : goal.returns-in-None
returns-in-None c = let h = fields_unsplit _ c.in-None.ensures in record { cut = h.0; long = h.1 }
