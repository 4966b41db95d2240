use Rattle.std.proofs.Common.{◌∙◌, refl, rules}
use Rattle.std.proofs.lemmas.Bool.{cond_below}
use Rattle.tables.proofs.Tables.{put_is, first_is}
use Rattle.tables.proofs.SlotMap.put.Goals.{in-Some, in-None}
use Rattle.tables.proofs.SlotMap.put.Goals as goal

pub returns-after-self : goal.returns-after-self
returns-after-self g c =
    let l = c.if-slot-lt-SLOTS.true in
    elim c.match-self.branch [
      | in-Some w ↦ put_is c.args.self.now _ w.in-Some.values c.args.slot c.args.value l (search rules) w.in-Some.is (rw w.self-is refl) c.insert.ensures
      | in-None w ↦ first_is c.args.self.now _ c.args.slot c.args.value l w.in-None.is (rw w.self-is refl) c.insert.ensures
    ] ∙ cond_below c.args.slot 64 _ _ l
