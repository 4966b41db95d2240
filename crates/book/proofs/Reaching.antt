-- What holds of every book that calls lead to. Assumes nothing.
use Rattle.std.proofs.Common.{◌≡◌, List, ◌∷◌, sym, subst}
use Rattle.store.specs.declared.Entry.{Entry}
use Rattle.store.specs.declared.Reading.{Ghosts as Meaning}
use Rattle.calls.specs.State.{State, just_made}
use Rattle.calls.specs.Words.{Call, Answer}
use Rattle.calls.specs.Calls.{answer, after}
use Rattle.calls.specs.Histories.{Event, event, Reached, made, called}
use Rattle.room.specs.Room.{Room}
use Rattle.book.specs.declared.Book.{Book}
use Rattle.book.specs.Runs.{Sound, said}
use Rattle.book.specs.Views.{view}
use Rattle.room.proofs.Rooms.{room_made, room_after}

pub room_reached : (first : List Entry) (h : List Event) (b : State) → Reached first h b → Room b
room_reached first _ _ made = room_made first
room_reached first _ _ (called {h} {b} r c) = room_after b c (room_reached first h b r)

-- a book just made over a sound store
pub sound_made : {S : Type 0} (reading : Meaning S) (b : Book S) → reading.sound b.store → view reading b ≡ just_made (reading.entries b.store) → Sound reading b
sound_made reading b h fresh = record { store = h; room = subst Room (sym fresh) (room_made (reading.entries b.store)) }

-- what a call leaves is sound where the call keeps its store sound and leaves what its definition says
pub sound_kept : {S : Type 0} (reading : Meaning S) (b later : Book S) (c : Call) → (reading.sound b.store → reading.sound later.store) → view reading later ≡ after (view reading b) c → Sound reading b → Sound reading later
sound_kept reading b later c keeps left h = record { store = keeps h.store; room = subst Room (sym left) (room_after (view reading b) c h.room) }

-- a call with its answer is one event more of what a state is reached by
pub reached_more : (first : List Entry) (h : List Event) (b later : State) (c : Call) (a : Answer) → a ≡ answer b c → later ≡ after b c → Reached first h b → Reached first (said c a ∷ h) later
reached_more first h b later c a said_so left r =
    subst (λ (x : Answer). Reached first (said c x ∷ h) later) (sym said_so)
    (subst (λ (s : State). Reached first (event b c ∷ h) s) (sym left) (called r c))

-- and of what a book is reached by
pub reached_call : {S : Type 0} (reading : Meaning S) (b later : Book S) (c : Call) (a : Answer) → (Sound reading b → a ≡ answer (view reading b) c) → (Sound reading b → view reading later ≡ after (view reading b) c)
    → reading.sound b.store → (first : List Entry) (h : List Event) → Reached first h (view reading b) → Reached first (said c a ∷ h) (view reading later)
reached_call reading b later c a told left store first h r =
    let sound : Sound reading b = record { store = store; room = room_reached first h (view reading b) r } in
    reached_more first h (view reading b) (view reading later) c a (told sound) (left sound) r
