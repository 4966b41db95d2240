use Rattle.std.proofs.Common.{◌∷◌, ◌++◌, decimal, vec_items, rules, sym, ap, ◌∙◌, append_assoc}
use Rattle.slots.specs.Rising.{left}
use Rattle.answer.proofs.Listing.{listed_first, listed_more, listed_all, hyphen_none}
use Rattle.answer.proofs.slot_list.push_slots.Goals as goal

pub returns-in_default : goal.returns-in_default
returns-in_default c = rw (hyphen_none _ (sym c.iter-rest.ensures ∙ c.in_default.ensures.steps.0)) (search rules)

pub loop-slot-init : goal.loop-slot-init
loop-slot-init c =
    let came = c.in-Some.ensures.steps in
    record {
      can = tt;
      ends = tt;
      text = _;
      written = c.in_ok-push_entry.ensures;
      listed = listed_first _ _ _ _ c.iter-rest.ensures came.0 (ap left c.into_iter-slot-iterator.ensures.into_iter_gives ∙ came.1);
    }

pub loop-slot-preserved : goal.loop-slot-preserved
loop-slot-preserved c =
    let came = c.in-Some-slot.ensures.steps in
    let before = c.loop-slot.invariant in
    let entry = 44 ∷ decimal c.in-Some-slot.slot in
    record {
      can = tt;
      ends = tt;
      text = before.text ++ entry;
      written = c.in_ok-push_entry-2.ensures ∙ ap (λ bs. bs ++ entry) before.written ∙ append_assoc (vec_items c.args.out.now) before.text entry;
      listed = listed_more _ _ _ _ _ before.listed came.0 came.1;
    }

pub returns : goal.returns
returns c =
    let all = listed_all _ _ _ c.loop-slot.invariant.listed c.in-None.ensures.steps.0 in
    c.loop-slot.invariant.written ∙ ap (λ bs. vec_items c.args.out.now ++ bs) all
