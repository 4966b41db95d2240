use Rattle.std.proofs.Common.{sym, refl, Some, arith, rules}
use Rattle.std.proofs.lemmas.Option.{slice_get_read}
use Rattle.session.proofs.table.Sessions.change.Goals as goal

pub returns : goal.returns
returns g c = record {
  outside = λ l. let no = c.if-session-ge-SESSIONS.false in absurd (omega (arith, l, no));
  inside = λ l. (c.change.result, c.index-self-session.result, c.change.new.arg2, refl, record { shown = _; shows = sym c.index-self-session.is; left = _; met = c.change.ensures; leaves = refl }, slice_get_read c.args.self.now.records 8 c.args.session c.index-self-session.result (search rules) l c.index-self-session.is, refl);
}
