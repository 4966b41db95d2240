use Rattle.std.proofs.Common.{None, arith, rules}
use Rattle.text.proofs.Decimal.{reads_back}
use Rattle.text.proofs.number.Goals as goal

pub returns-then-not-is_well_led-clause-reads_back : goal.returns-then-not-is_well_led-clause-reads_back
returns-then-not-is_well_led-clause-reads_back c = reads_back c.args.limit c.args.bytes.now None (omega (arith, c.ranges.limit.fits)) (search rules)

pub returns-clause-reads_back : goal.returns-clause-reads_back
returns-clause-reads_back c = reads_back c.args.limit c.args.bytes.now c.digits.result (omega (arith, c.ranges.limit.fits)) (search rules)
