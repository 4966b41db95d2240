use Rattle.std.proofs.Common.{◌≡◌, None, ◌∙◌, rules}
use Rattle.text.specs.Octets.{octet_of}
use Rattle.text.proofs.Grammar.{octet_number}
use Rattle.text.proofs.octet.Goals as goal

pub returns-in_default-2-clause-number : goal.returns-in_default-2-clause-number
returns-in_default-2-clause-number c =
    let value : None ≡ octet_of c.args.bytes.now = search rules in
    value ∙ octet_number c.args.bytes.now
