use Rattle.std.proofs.Common.{◌≡◌, sym, ◌∙◌, rules}
use Rattle.rule.specs.Reading.{read_rule}
use Rattle.rule.proofs.RoundTrip.{refused, rule_texts}
use Rattle.rule.proofs.Rule.read.Goals as goal

pub returns-in_err-read_parts : goal.returns-in_err-read_parts
returns-in_err-read_parts c =
    let parts = refused _ _ (sym c.read_parts.ensures ∙ c.in_err-read_parts.was) in
    let value : c.from_residual.result ≡ read_rule c.args.bytes.now = search rules in
    let texts = rule_texts _ _ value in
    record { value = value; one_text = texts.0; reads_back = texts.1 }

pub returns : goal.returns
returns c =
    let value : c.try_from.result ≡ read_rule c.args.bytes.now = search rules in
    let texts = rule_texts _ _ value in
    record { value = value; one_text = texts.0; reads_back = texts.1 }
