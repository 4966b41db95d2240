use Rattle.std.proofs.Common.{◌≡◌, None, refl, rules, arith}
use Rattle.std.proofs.lemmas.Grind.{common_steps}
use Rattle.slots.specs.Meaning.{has}
use Rattle.calls.specs.Words.{commit}
use Rattle.calls.specs.Checks.{first_cause, checks}
use Rattle.calls.specs.Effects.{number_after}
use Rattle.book.specs.Runs.{Sound}
use Rattle.book.specs.Views.{view}
use Rattle.room.proofs.Rooms.{room_next}
use Rattle.book.proofs.Commits.{commit_leaves}
use Rattle.book.proofs.Book.commit.Goals as goal

pub returns : goal.returns
returns g c =
    let b = view g.S.Reading c.args.self.now in
    let s = c.args.session in
    let passed : Sound g.S.Reading c.args.self.now → first_cause (checks b (commit s)) ≡ None = λ h. grind (arith, common_steps, c.in_ok-own.ensures.value h.store) in
    let number : Sound g.S.Reading c.args.self.now → c.if-any_below.number ≡ number_after b s = λ h. grind (arith, common_steps, room_next b h.room s (passed h)) in
    record {
      answer = λ h. grind (arith, common_steps, number h, passed h);
      after = λ h.
          let sound = c.in_ok-own.ensures.sound h.store in
          commit_leaves b _ s (has c.slots_written-slots.result) (passed h) (number h) (grind (arith, common_steps)) (grind (arith, common_steps, sound, c.in_ok-own.ensures.same)) (search rules) (search rules) refl;
      store = search rules;
    }
