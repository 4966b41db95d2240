use Rattle.std.proofs.Common.{◌≡◌}
use Rattle.session.specs.Views as seen
use Rattle.calls.specs.Effects.{puts}
use Rattle.staging.proofs.put_staged.Given as goal

abbrev pub invariant-loop-slot : goal.invariant-loop-slot
invariant-loop-slot g l = (g.S.Reading.sound l.initial.store → (g.S.Reading.sound l.store) × (g.S.Reading.entries l.store ≡ puts l.slot (seen.view l.own).work.staged (g.S.Reading.entries l.initial.store)))
