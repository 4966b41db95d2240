use Rattle.std.proofs.Common.{length, is_some, take, rules, sym, ap, ◌∙◌, arith}
use Rattle.std.proofs.lemmas.List.{length-take-le}
use Rattle.std.proofs.lemmas.Iterator.{YieldsList-from_slice}
use Rattle.std.proofs.lemmas.Iterator.Search.{all_from_yields_List}
use Rattle.block.specs.Layout.{records_in, rule_in}
use Rattle.block.proofs.EachRecord.{length_records, records_hold}
use Rattle.block.proofs.damage.rules_below.Goals as goal

pub slice_bounds-iter-end : goal.slice_bounds-iter-end
slice_bounds-iter-end c =
    sym (length-take-le c.args.slots c.records.result.now (omega (arith, ap length c.records.ensures, length_records c.args.block.now)))

pub returns : goal.returns
returns c =
    all_from_yields_List (λ bytes. is_some (rule_in bytes)) _ _ _ c.all.ensures.ran
    (YieldsList-from_slice (take c.args.slots (records_in c.args.block.now)) (c.iter.ensures.rest ∙ ap (take c.args.slots) c.records.ensures)) (λ x b q k. search rules)
    ∙ records_hold c.args.block.now c.args.slots c.requires
