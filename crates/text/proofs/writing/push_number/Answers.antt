use Rattle.std.proofs.Common.{refl, arith}
use Rattle.text.proofs.Spelling.{digits_none, digits_more, digits_room, digits_all}
use Rattle.text.proofs.writing.push_number.Goals as goal

pub loop-left-init : goal.loop-left-init
loop-left-init c = digits_none _ _ (omega arith) refl refl

pub overflow_sub-from : goal.overflow_sub-from
overflow_sub-from c = digits_room _ _ _ _ c.loop-left.invariant

pub loop-left-preserved : goal.loop-left-preserved
loop-left-preserved c = digits_more _ _ _ _ c.loop-left.invariant c.loop-left-test.true

pub overflow_sub-from-2 : goal.overflow_sub-from-2
overflow_sub-from-2 c = digits_room _ _ _ _ c.loop-left.invariant

pub returns : goal.returns
returns c = let text = digits_all _ _ _ _ c.loop-left.invariant c.loop-left-test.false in let items = c.extend_from_slice.ensures.items in cc
