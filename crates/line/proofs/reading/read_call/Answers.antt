use Rattle.std.proofs.Common.{◌≡◌, ◌≤◌, length, Err, sym, ap, ◌∙◌, arith, rules}
use Rattle.refusal.specs.declared.Refusal.TheVariants.{Unreadable}
use Rattle.line.specs.Reading.{call_of}
use Rattle.line.specs.Steps.{fields_as}
use Rattle.line.proofs.Stepping.{call_read}
use Rattle.line.proofs.OneText.{one_text}
use Rattle.line.proofs.ReadsBack.{reads_back}
use Rattle.line.proofs.reading.read_call.Goals as goal

pub returns-then-line-gt-LONGEST : goal.returns-then-line-gt-LONGEST
returns-then-line-gt-LONGEST g c =
    let laws = g.met.S.Stamp in
    let reads = g.S.Stamp.reads in
    let bs = c.args.line.now in
    let value : Err (Unreadable 80) ≡ call_of reads bs = search rules in
    record {
      value = value;
      one_text = λ call h. one_text reads g.S.Stamp.text laws.one_text bs call (sym value ∙ h);
      reads_back = λ call fits h. value ∙ ap (call_of reads) h ∙ reads_back reads g.S.Stamp.text laws.reads_back laws.no_space laws.short call fits;
    }

pub returns : goal.returns
returns g c =
    let laws = g.met.S.Stamp in
    let reads = g.S.Stamp.reads in
    let bs = c.args.line.now in
    let within : length bs ≤ 80 = omega arith in
    let value = c.fields_in.ensures ∙ (λ i. fields_as reads (c.new-fields.ensures.end i) (c.new-fields.ensures.fields i)) ∙ call_read reads bs within in
    record {
      value = value;
      one_text = λ call h. one_text reads g.S.Stamp.text laws.one_text bs call (sym value ∙ h);
      reads_back = λ call fits h. value ∙ ap (call_of reads) h ∙ reads_back reads g.S.Stamp.text laws.reads_back laws.no_space laws.short call fits;
    }
