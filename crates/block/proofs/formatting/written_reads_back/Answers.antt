use Rattle.block.proofs.LaidOut.{written_reads_back}
use Rattle.block.proofs.formatting.written_reads_back.Goals as goal

pub returns : goal.returns
returns c = written_reads_back
