use Rattle.std.proofs.Common.{sym, ap, ◌∙◌, arith}
use Rattle.std.proofs.lemmas.Bool.{cond_below}
use Rattle.slots.specs.Meaning.{has}
use Rattle.law.specs.Accounts.{changed}
use Rattle.calls.specs.Effects.{committed, notified}
use Rattle.tables.proofs.Tables.{upto_end, upto_more}
use Rattle.session.specs.declared.table.Sessions.{Sessions}
use Rattle.session.specs.Views.{sessions_of, after_commit}
use Rattle.session.proofs.Rows.{commit_past, commit_here, commit_other}
use Rattle.session.proofs.table.Sessions.commit.Goals.{then-other-session, else-other-session}
use Rattle.session.proofs.table.Sessions.commit.Goals as goal

pub loop-other-preserved : goal.loop-other-preserved
loop-other-preserved c =
    let s = c.args.session in
    let slots = has c.args.slots in
    let n = c.args.number in
    let k = c.loop-other.other in
    let old = sessions_of c.args.self.now.records in
    let new = after_commit s slots n old in
    elim c.if-other-session.branch [
      | then-other-session w ↦ ap (λ (t : Sessions). sessions_of t.records) w.self-is ∙ w.finish.ensures ∙ sym (cond_below k 8 _ _ (omega arith))
          ∙ ap (changed k committed) c.loop-other.invariant ∙ upto_more new old k committed (commit_here s k slots n old w.if-other-session.true)
      | else-other-session w ↦ ap (λ (t : Sessions). sessions_of t.records) w.self-is ∙ w.notify.ensures ∙ sym (cond_below k 8 _ _ (omega arith))
          ∙ ap (changed k (notified slots n)) c.loop-other.invariant ∙ upto_more new old k (notified slots n) (commit_other s k slots n old w.if-other-session.false)
    ]

pub returns : goal.returns
returns c =
    let old = sessions_of c.args.self.now.records in
    upto_end (after_commit c.args.session (has c.args.slots) c.args.number old) old c.loop-other.other 8 (omega arith) c.loop-other.invariant
    (commit_past c.args.self.now.records c.args.session (has c.args.slots) c.args.number)
