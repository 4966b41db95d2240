-- Books that may be called, and what a list of calls with its answers comes to. Assumes nothing.
use Rattle.std.specs.Prelude.{◌≡◌, List, [], ◌∷◌}
use Rattle.store.specs.declared.Reading.{Ghosts as Meaning}
use Rattle.calls.specs.State.{just_made}
use Rattle.calls.specs.Words.{Call, Answer}
use Rattle.calls.specs.Calls.{after}
use Rattle.calls.specs.Histories.{Event}
use Rattle.book.specs.declared.Book.{Book}
use Rattle.room.specs.Room.{Room}
use Rattle.book.specs.Views.{view}

-- the store is sound, and there is a notice number left for every pending change that writes
pub record Sound {S : Type 0} (reading : Meaning S) (b : Book S) : Type 0 where
  pub store : reading.sound b.store
  pub room : Room (view reading b)

-- how books come to be sound: by their making, and by every call
pub record Soundness {S : Type 0} (reading : Meaning S) : Type 0 where
  pub made : (b : Book S) → reading.sound b.store → view reading b ≡ just_made (reading.entries b.store) → Sound reading b
  pub kept : (b later : Book S) (c : Call) → (reading.sound b.store → reading.sound later.store) → view reading later ≡ after (view reading b) c → Sound reading b → Sound reading later

-- a call with an answer
abbrev pub said : Call → Answer → Event
said c a = record { call = c; answer = a }

-- the history of calls with their answers, put before the events that there were
abbrev pub events : List Call → List Answer → List Event → List Event
events [] answers h = h
events (c ∷ cs) [] h = h
events (c ∷ cs) (a ∷ answers) h = events cs answers (said c a ∷ h)
