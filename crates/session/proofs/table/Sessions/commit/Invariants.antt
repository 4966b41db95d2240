use Rattle.std.proofs.Common.{◌≡◌}
use Rattle.slots.specs.Meaning.{has}
use Rattle.tables.proofs.Tables.{upto}
use Rattle.session.specs.Views.{sessions_of, after_commit}
use Rattle.session.proofs.table.Sessions.commit.Given as goal

abbrev pub invariant-loop-other : goal.invariant-loop-other
invariant-loop-other l = sessions_of l.self.records ≡ upto l.other (after_commit l.session (has l.slots) l.number (sessions_of l.initial.self.records)) (sessions_of l.initial.self.records)
