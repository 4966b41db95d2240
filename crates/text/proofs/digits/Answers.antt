use Rattle.std.proofs.Common.{◌∙◌}
use Rattle.text.proofs.Decimal.{read_stop}
use Rattle.text.proofs.digits.Goals as goal

pub returns-in_err-number : goal.returns-in_err-number
returns-in_err-number c = c.from_residual.ensures ∙ read_stop _ _ _ _ c.loop-byte.invariant c.loop-byte-test.true c.in_err-number.ensures
