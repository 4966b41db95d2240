use Rattle.std.proofs.Common.{◌≡◌, ◌+◌, ◌*◌, ◌/◌, ◌%◌, ◌-◌, length, take, drop, sym, refl, ap, ◌∙◌, arith, rules}
use Rattle.std.proofs.lemmas.List.Edits.{length-between}
use Rattle.std.proofs.lemmas.Slice.{put_mid-paste}
use Rattle.block.specs.Layout.{rewritten}
use Rattle.block.specs.Memory.{block_at}
use Rattle.block.specs.Rewritten.{length_rewritten}
use Rattle.block.proofs.Chunks.{split_put}
use Rattle.block.proofs.block_store.write_slot.Goals as goal

pub returns : goal.returns
returns c =
    let bytes = c.args.bytes.now in
    let x = c.args.slot in
    let long : length (block_at bytes (x / 32)) ≡ 512 = length-between bytes (512 * (x / 32)) (512 * (x / 32) + 512) c.requires ∙ omega arith in
    let first : c.unwrap-block.result.now ≡ take 512 c.split_at_mut-rest.result.1.now = search rules in
    let size : 512 ≡ 512 * (x / 32) + 512 - 512 * (x / 32) = omega arith in
    let back = c.split_at_mut-rest.ensures.back in
    let held : c.unwrap-block.result.now ≡ block_at bytes (x / 32) = first ∙ ap (take 512) back ∙ ap (λ m. take m (drop (512 * (x / 32)) bytes)) size in
    split_put bytes _ _ _ (512 * (x / 32)) c.split_at_mut-rest.ensures.front back
    ∙ put_mid-paste (512 * (x / 32)) 512 bytes _ (rewritten (block_at bytes (x / 32)) (x % 32) c.args.rule) 512
    (c.write_record.ensures ∙ ap (λ b. rewritten b (x % 32) c.args.rule) held) refl (sym (length_rewritten (block_at bytes (x / 32)) (x % 32) c.args.rule long (omega arith)))
