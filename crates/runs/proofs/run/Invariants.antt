use Rattle.std.proofs.Common.{◌≡◌, ◌≤◌, length, vec_items, vec_len, vec_capacity}
use Rattle.book.specs.Runs.{Sound}
use Rattle.book.specs.Views.{view, answer_view, call_view}
use Rattle.runs.proofs.Runnings.{Running}
use Rattle.runs.proofs.run.Given as goal

abbrev pub invariant-loop-call : goal.invariant-loop-call
invariant-loop-call g l = record {
  len : vec_len l.answers ≡ l.call-index;
  room : length l.calls ≤ vec_capacity l.answers;
  sound : Sound g.S.Reading l.initial.book → Sound g.S.Reading l.book;
  running : Sound g.S.Reading l.initial.book → Running (call_view g.K.Stamp.key_of) answer_view l.calls (view g.S.Reading l.initial.book) (view g.S.Reading l.book) l.call-index (vec_items l.answers);
}
