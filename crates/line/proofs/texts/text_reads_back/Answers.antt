use Rattle.line.proofs.ReadsBack.{reads_back}
use Rattle.line.proofs.texts.text_reads_back.Goals as goal

pub returns : goal.returns
returns g c =
    let laws = g.met.S.Stamp in
    reads_back g.S.Stamp.reads g.S.Stamp.text laws.reads_back laws.no_space laws.short c.args.call c.numbers_fit.ensures
