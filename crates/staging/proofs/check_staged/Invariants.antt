use Rattle.std.proofs.Common.{◌≡◌, None}
use Rattle.session.specs.Views as seen
use Rattle.calls.specs.Checks.{refused_get}
use Rattle.staging.proofs.check_staged.Given as goal

abbrev pub invariant-loop-slot : goal.invariant-loop-slot
invariant-loop-slot g l = (g.S.Reading.sound l.initial.store → (g.S.Reading.sound l.store) × (refused_get l.slot (seen.view l.own).work.staged (g.S.Reading.entries l.initial.store) ≡ None))
    × (g.S.Reading.entries l.store ≡ g.S.Reading.entries l.initial.store)
