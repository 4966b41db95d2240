-- A small book for worked histories, four open rules, and the words in which they are written. Assumes nothing.
-- Histories are written in the order of time here.
use Rattle.std.specs.Prelude.{◌≡◌, ℕ, zero, suc, Bool, cond, List, [], ◌∷◌, ◌++◌, map, ◌==◌, refl}
use Rattle.rule.specs.declared.Parts.{Parts}
use Rattle.rule.specs.declared.Rule.{Rule}
use Rattle.rule.specs.Making.{rule_with, facts, open_rule}
use Rattle.store.specs.declared.Entry.{Entry}
use Rattle.store.specs.declared.Entry.TheVariants.{Intact}
use Rattle.law.specs.Changes.{Key}
use Rattle.calls.specs.State.{State, just_made}
use Rattle.calls.specs.Words.{Call, begin, fetch, read, write, forward, commit}
use Rattle.calls.specs.Words.{Answer, done, rule, place, number, learnt, removed, refused}
use Rattle.calls.specs.Calls.{answer, after}
use Rattle.calls.specs.Histories.{Event, final}

-- four open rules
abbrev pub four : List Entry
four = Intact open_rule ∷ Intact open_rule ∷ Intact open_rule ∷ Intact open_rule ∷ []

-- the parts of a block rule
abbrev pub block_parts : Parts
block_parts = record { address = 3221225984; prefix = 24; action = 1; first = 0; last = 65535 }

-- 192.0.2.0/24 block 0-65535
unfoldable pub block_rule : Rule
block_rule = rule_with block_parts (facts block_parts refl)

-- the key of a clock stamp: time and station
abbrev pub at : ℕ → ℕ → Key
at time station = record { major = time; minor = station }

-- the set of slot 1 alone
abbrev pub only_one : ℕ → Bool
only_one x = x == 1

infixl 5 ◌gives◌
-- a call with its answer
abbrev pub ◌gives◌ : Call → Answer → Event
c gives a = record { call = c; answer = a }

-- a session's change takes slot 1 and reads it
abbrev pub reads_one : ℕ → Rule → List Event
reads_one s r = (begin s gives done) ∷ (fetch s 1 gives rule r) ∷ (read s 1 gives rule r) ∷ []

-- and writes a rule into it, where the open rule was
abbrev pub writes_one : ℕ → Rule → List Event
writes_one s r = reads_one s open_rule ++ (write s 1 r gives done) ∷ []

-- a session blocks slot 1 under a stamp, as the first change of all
abbrev pub first_change : ℕ → Key → List Event
first_change s k = writes_one s block_rule ++ (forward s k gives place 0) ∷ (commit s gives number 1) ∷ []

-- the numbers below n that pass a test, rising
abbrev pub members : ℕ → (ℕ → Bool) → List ℕ
members zero f = []
members (suc n) f = members n f ++ cond (f n) (n ∷ []) []

-- an answer, with its set of slots written out
pub data Shown : Type 0 where
  plain : Answer → Shown
  told : ℕ → List ℕ → Bool → Shown

-- how each answer is compared
abbrev pub shown : Answer → Shown
shown done = plain done
shown (rule r) = plain (rule r)
shown (place p) = plain (place p)
shown (number n) = plain (number n)
shown (learnt n slots ended) = told n (members 4 slots) ended
shown (removed n) = plain (removed n)
shown (refused e) = plain (refused e)

-- what calls are answered, one after another
abbrev pub answers : State → List Call → List Answer
answers b [] = []
answers b (c ∷ cs) = answer b c ∷ answers (after b c) cs

-- from this state, the calls of a history are answered as the history says
abbrev pub PlaysFrom : State → List Event → Type 0
PlaysFrom b events =
    map shown (answers b (map (λ (e : Event). e.call) events)) ≡ map (λ (e : Event). shown e.answer) events

-- the same from a book just made over four open rules
abbrev pub Plays : List Event → Type 0
Plays events = PlaysFrom (just_made four) events

-- the same after other calls
abbrev pub PlaysAfter : List Call → List Event → Type 0
PlaysAfter calls events = PlaysFrom (final (just_made four) calls) events
