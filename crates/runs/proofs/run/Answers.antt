use Rattle.std.proofs.Common.{[], map, vec_items, sym, ap, ◌∙◌, subst, arith}
use Rattle.calls.specs.State.{just_made}
use Rattle.calls.proofs.Steps.{law_of_reached}
use Rattle.book.specs.Runs.{events}
use Rattle.book.specs.Views.{view, answer_view, call_view}
use Rattle.book.proofs.Reaching.{sound_made}
use Rattle.runs.proofs.Runnings.{run_push, run_whole, reached_run}
use Rattle.runs.proofs.run.Goals as goal

pub loop-call-preserved : goal.loop-call-preserved
loop-call-preserved g c =
    let now = c.loop-call.invariant in
    record {
      len = omega arith;
      room = omega arith;
      sound = λ h. c.apply.ensures.sound (now.sound h);
      running = λ h. run_push (call_view g.K.Stamp.key_of) answer_view c.args.calls.now _ _ _ c.loop-call.call-index c.call-item.result (vec_items c.loop-call.answers) c.apply.result _
          (omega arith) c.call-item.is (c.apply.ensures.answer (now.sound h)) (c.apply.ensures.after (now.sound h)) c.push_reserved.ensures.items (now.running h);
    }

pub returns : goal.returns
returns g c =
    let cv = call_view g.K.Stamp.key_of in
    let calls = c.args.calls.now in
    let first = g.S.Reading.entries c.args.store in
    let made = c.in_ok-book.ensures in
    let start = λ (h : g.S.Reading.sound c.args.store). sound_made g.S.Reading c.in_ok-book.book (subst g.S.Reading.sound (sym made.0) h) (made.1 ∙ ap (λ t. just_made (g.S.Reading.entries t)) (sym made.0)) in
    let whole = λ (h : g.S.Reading.sound c.args.store). rw made.1 at (run_whole cv answer_view calls _ _ c.loop-call.call-index (vec_items c.loop-call.answers) c.loop-call-test.false (c.loop-call.invariant.running (start h))) in
    let reached = λ (h : g.S.Reading.sound c.args.store). reached_run first (map cv calls) (events (map cv calls) (map answer_view (vec_items c.loop-call.answers)) []) (view g.S.Reading c.loop-call.book) (whole h).0 (whole h).1 in
    record {
      count = omega arith;
      history = λ h. (whole h).0;
      last = λ h. (whole h).1;
      reached = reached;
      law = λ h. law_of_reached _ _ _ (reached h);
    }
