use Rattle.std.proofs.Common.{◌≡◌, ◌+◌, ◌*◌, length, take, replicate, sym, ap, ◌∙◌, arith}
use Rattle.std.proofs.lemmas.Bool.{cond-true}
use Rattle.rule.specs.Making.{open_rule}
use Rattle.block.specs.Layout.{laid_out}
use Rattle.block.specs.Memory.{fits, block_entries, formatted}
use Rattle.block.specs.Memories.{fits_says}
use Rattle.block.proofs.Formatted.{formatted_none, formatted_more, formatted_all, formatted_means}
use Rattle.block.proofs.Chunks.{split_put}
use Rattle.block.proofs.memory.format.Goals as goal

pub loop-number-init : goal.loop-number-init
loop-number-init c = formatted_none c.args.count

pub loop-number-preserved : goal.loop-number-preserved
loop-number-preserved c =
    let k = c.args.count in
    let n = c.loop-number.number in
    let f = fits_says k (length c.args.bytes.now) c.in_ok-check.ensures.ok in
    let head = c.of-head.ensures in
    let block = c.format_block.ensures ∙ (λ i. laid_out (head.number i) (replicate (head.slots i) open_rule)) in
    let parts = c.split_at_mut-rest.ensures in
    ap (take (512 * (n + 1))) (split_put c.loop-number.bytes _ _ _ (512 * n) parts.front parts.back)
    ∙ formatted_more k n 512 c.loop-number.bytes c.format_block.new.block (omega (arith, f.whole)) block c.loop-number.invariant

pub returns : goal.returns
returns c =
    let k = c.args.count in
    let e = c.in_ok-check.ensures.ok in
    let f = fits_says k (length c.args.bytes.now) e in
    let all = formatted_all k c.loop-number.number c.loop-number.bytes (omega (arith, f.whole)) (omega arith) c.loop-number.invariant in
    let size : length c.loop-number.bytes ≡ length c.args.bytes.now = omega arith in
    record {
      value = sym (cond-true (fits k (length c.args.bytes.now)) _ _ e);
      after = all ∙ sym (cond-true (fits k (length c.args.bytes.now)) (formatted k) _ e);
      reads_back = ap (λ l. block_entries l k) all ∙ formatted_means k (ap (λ l. fits k (length l)) (sym all) ∙ ap (fits k) size ∙ e);
    }
