use Rattle.text.proofs.Decimal.{Read}
use Rattle.text.proofs.digits.Given as goal

abbrev pub invariant-loop-byte : goal.invariant-loop-byte
invariant-loop-byte l = Read l.limit l.bytes l.byte-index l.number
