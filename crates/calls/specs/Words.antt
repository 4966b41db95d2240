-- What is asked of a book, and what is answered. Assumes nothing.
use Rattle.std.specs.Prelude.{ℕ, Bool}
use Rattle.refusal.specs.declared.Refusal.{Refusal}
use Rattle.rule.specs.declared.Rule.{Rule}
use Rattle.law.specs.Changes.{Key}

-- what is asked, each call with its session but for truncation
pub data Call : Type 0 where
  begin : (session : ℕ) → Call
  fetch : (session slot : ℕ) → Call
  read : (session slot : ℕ) → Call
  write : (session slot : ℕ) (rule : Rule) → Call
  drop : (session slot : ℕ) → Call
  forward : (session : ℕ) (key : Key) → Call
  commit : (session : ℕ) → Call
  abort : (session : ℕ) → Call
  learn : (session : ℕ) → Call
  receipt : (session number : ℕ) → Call
  truncate : (key : Key) → Call

-- what is answered
pub data Answer : Type 0 where
  done : Answer
  -- the rule of a slot
  rule : Rule → Answer
  -- the place of an entry in the queue
  place : ℕ → Answer
  -- the notice number
  number : ℕ → Answer
  -- the number learnt, the slots with notices, and whether a change ended
  learnt : ℕ → (ℕ → Bool) → Bool → Answer
  -- how many entries left the queue
  removed : ℕ → Answer
  refused : Refusal → Answer
