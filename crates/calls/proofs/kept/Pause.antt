-- A call that is turned away, and one that does not count, leave the invariant. Assumes nothing.
use Rattle.std.proofs.Common.{List}
use Rattle.rule.specs.declared.Rule.{Rule}
use Rattle.store.specs.declared.Entry.{Entry}
use Rattle.law.specs.Accounts.{Account, passes}
use Rattle.law.specs.Accounts.{after as then}
use Rattle.law.proofs.Places.{places_kept}
use Rattle.calls.specs.State.{State}
use Rattle.calls.proofs.Invariant.{Inv}

pub pause_ok : (first : List Entry) (b : State) (a : Account Rule) → Inv first b a → Inv first b (then passes a)
pause_ok first b a inv = record {
  settled = inv.settled;
  changes = inv.changes;
  desks = inv.desks;
  works = inv.works;
  places = places_kept passes a inv.places;
}
