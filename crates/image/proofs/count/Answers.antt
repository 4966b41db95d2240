use Rattle.std.proofs.Common.{[], get_or, slice_index, rules, ap, ◌∙◌}
use Rattle.image.specs.Image.{count_with}
use Rattle.image.proofs.Counts.{two_blocks}
use Rattle.image.proofs.count.Goals as goal

pub returns-in-len2-empty : goal.returns-in-len2-empty
returns-in-len2-empty c =
    let chunks = c.as_chunks.ensures in
    c.count_with-in-len2-empty.ensures ∙ ap (λ l. count_with 1 (slice_index (get_or l 1 []) 3)) chunks.front
    ∙ two_blocks c.args.bytes.now (search rules) (search rules)
