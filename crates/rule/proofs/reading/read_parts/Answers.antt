use Rattle.std.proofs.Common.{rules}
use Rattle.rule.proofs.Fields.{some_field}
use Rattle.rule.proofs.reading.read_parts.Goals as goal

pub returns-in-Some : goal.returns-in-Some
returns-in-Some c = let fourth = some_field c.in-Some.rest.now in search rules
