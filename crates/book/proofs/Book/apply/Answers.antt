use Rattle.calls.proofs.Steps.{law_of_reached}
use Rattle.book.specs.Views.{answer_view, call_view}
use Rattle.book.proofs.Reaching.{sound_kept, reached_call}
use Rattle.book.proofs.Book.apply.Goals as goal

pub returns : goal.returns
returns g c =
    let call = call_view g.K.Stamp.key_of c.args.call in
    let done = c.dispatch.ensures in
    let reached = reached_call g.S.Reading c.args.self.now c.dispatch.new.self call (answer_view c.dispatch.result) done.answer done.after in
    record {
      answer = done.answer;
      after = done.after;
      sound = λ h. sound_kept g.S.Reading c.args.self.now _ call done.store (done.after h) h;
      store = done.store;
      reached = reached;
      law = λ s first h r. law_of_reached first _ _ (reached s first h r);
    }
