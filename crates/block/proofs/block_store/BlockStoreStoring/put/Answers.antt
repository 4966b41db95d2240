use Rattle.std.proofs.Common.{length, is_ok, vec_items, sym, refl, ap, ◌∙◌, arith}
use Rattle.std.proofs.lemmas.List.{with_items_is}
use Rattle.std.proofs.lemmas.Bool.{cond-true}
use Rattle.store.specs.Entries.{done, got}
use Rattle.store.specs.Slots.{inside_from_got, put_where_got}
use Rattle.block.specs.Memory.{block_entries, with_rule}
use Rattle.block.specs.Memories.{sized, below_count, room, got_entry, length_with, set_entry}
use Rattle.block.proofs.block_store.BlockStoreStoring.put.Goals as goal

pub write_slot-requires : goal.write_slot-requires
write_slot-requires c =
    let bytes = vec_items c.args.self.now.bytes in
    let k = c.args.self.now.count in
    let x = c.args.slot in
    let lt = inside_from_got _ x _ (sym c.in_ok-rule_at.ensures) in
    omega (arith, room k (length bytes) x (sized bytes k x lt) (below_count bytes k x lt), ap length c.deref_mut.ensures.value)

pub returns : goal.returns
returns c =
    let bytes = vec_items c.args.self.now.bytes in
    let k = c.args.self.now.count in
    let x = c.args.slot in
    let r = c.args.rule in
    let q = c.in_ok-rule_at.field-0 in
    let found = sym c.in_ok-rule_at.ensures in
    let lt = inside_from_got (block_entries bytes k) x q found in
    let size = sized bytes k x lt in
    let below = below_count bytes k x lt in
    let rule = sym (got_entry bytes k x lt) ∙ found in
    let slice = c.write_slot.ensures ∙ ap (λ l. with_rule l x r) c.deref_mut.ensures.value in
    let long = ap length slice ∙ length_with bytes k x r q size below rule ∙ sym c.args.self.now.bytes.ok.0 in
    let written = with_items_is c.args.self.now.bytes c.write_slot.new.bytes long ∙ slice in
    record {
      stays_sound = λ u. u;
      value = λ _. sym (ap done found);
      after = λ _. ap (λ l. block_entries l k) written ∙ set_entry bytes k x r q size below rule ∙ sym (put_where_got (block_entries bytes k) x r q found);
      memory = written ∙ sym (cond-true (is_ok (got (block_entries bytes k) x)) (with_rule bytes x r) bytes (ap is_ok found));
      count = refl;
    }
