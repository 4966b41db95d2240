use Rattle.std.proofs.Common.{Ok, vec_items, sym, ap, ◌∙◌, rules}
use Rattle.image.specs.Image.{image_count}
use Rattle.image.proofs.Counts.{all_slots}
use Rattle.image.proofs.open.Goals as goal

pub returns : goal.returns
returns c =
    let told = ap image_count (sym c.deref.ensures.value) ∙ sym c.in_ok-slots.ensures ∙ ap Ok (sym c.new-store.ensures.count) in
    record { value = search rules; memory = search rules; all_slots = all_slots (vec_items c.args.bytes) c.new-store.result.count told }
