-- The account of a history: which changes were made, by what was asked and answered alone. Assumes nothing.
-- A history has the latest step in front; the place of a step is the number of steps before it.
use Rattle.std.specs.Prelude.{ℕ, suc, Bool, false, cond, not, ◌&&◌, ◌||◌, List, [], ◌∷◌, map, Some, None, filter, Option, ◌==◌, nat_lt}
use Rattle.std.specs.Option.{option_map}
use Rattle.law.specs.Operations.{Operation, reading, writing, wrote, has_read}
use Rattle.law.specs.Changes.{Key, Change, pending}

-- what became of a change that was put forward and that nothing before the test of staleness turned away
pub data Outcome : Type 0 where
  accepted : Outcome
  -- refused as stale, with the slot told
  stale : (slot : ℕ) → Outcome
  -- refused for a cause that is tried after staleness
  withheld : Outcome

-- what a call with its answer comes to
pub data Step (R : Type 0) : Type 0 where
  -- a session begins a change
  begins : (session : ℕ) → Step R
  -- a session takes a slot as it is now
  takes : (session slot : ℕ) → Step R
  -- a session's change reads a slot and is answered a rule
  reads : (session slot : ℕ) (rule : R) → Step R
  -- a session's change writes a rule into a slot
  writes : (session slot : ℕ) (rule : R) → Step R
  -- a session's change is put forward under a stamp
  forwards : (session : ℕ) (key : Key) (outcome : Outcome) → Step R
  -- a session's accepted change is committed
  commits : (session : ℕ) → Step R
  -- a session's change is struck out
  strikes : (session : ℕ) → Step R
  -- nothing that counts
  passes : Step R

-- a change that is being written: the place where it began, and what it did so far
pub record Draft (R : Type 0) : Type 0 where
  pub began : ℕ
  pub ops : List (Operation R)

-- a commit that replaced slots: whose, at which place of the history, and which slots
pub record Replacing : Type 0 where
  pub session : ℕ
  pub place : ℕ
  pub slots : ℕ → Bool

-- what a history tells of changes, of slots taken and of slots replaced
pub record Account (R : Type 0) : Type 0 where
  -- how many steps there were
  pub place : ℕ
  -- the change that each session is writing
  pub drafts : ℕ → Option (Draft R)
  -- the accepted changes, the latest in front
  pub accepted : List (Change R)
  -- the place where a session last took a slot
  pub taken : ℕ → ℕ → Option ℕ
  -- the commits that replaced slots, the latest in front
  pub replacings : List Replacing

-- a function with another value at one number
abbrev pub changed : {X : Type 0} → ℕ → (X → X) → (ℕ → X) → ℕ → X
changed n f g m = cond (m == n) (f (g m)) (g m)

module _ {R : Type 0} where
  -- one more operation
  abbrev pub with_operation : Operation R → Draft R → Draft R
  with_operation o d = record d { ops = o ∷ d.ops }

  -- a draft put forward joins the accepted changes, pending
  abbrev pub joined_by : List (Change R) → ℕ → Key → Option (Draft R) → List (Change R)
  joined_by cs s k None = cs
  joined_by cs s k (Some d) = record { session = s; key = k; began = d.began; ops = d.ops; committed = None } ∷ cs

  -- is this the pending change of a session
  abbrev pub pending_of : ℕ → Change R → Bool
  pending_of s c = pending c && c.session == s

  -- the pending change of a session is committed at a place
  abbrev pub commit_at : ℕ → ℕ → Change R → Change R
  commit_at s p c = record c { committed = cond (pending_of s c) (Some p) c.committed }

  -- the slots that a commit of a session replaces: those that its pending change wrote
  abbrev pub replaced_by : ℕ → List (Change R) → ℕ → Bool
  replaced_by s [] x = false
  replaced_by s (c ∷ cs) x = (pending_of s c && wrote c.ops x) || replaced_by s cs x

  -- one place further, and nothing else
  abbrev pub onward : Account R → Account R
  onward a = record a { place = suc a.place }

  -- the account with other drafts
  abbrev pub with_drafts : (ℕ → Option (Draft R)) → Account R → Account R
  with_drafts f a = record a { drafts = f }

  -- the account with other accepted changes
  abbrev pub with_accepted : List (Change R) → Account R → Account R
  with_accepted cs a = record a { accepted = cs }

  -- the account with other takings
  abbrev pub with_taken : (ℕ → ℕ → Option ℕ) → Account R → Account R
  with_taken f a = record a { taken = f }

  -- a step makes one account into another
  abbrev pub after : Step R → Account R → Account R
  after (begins s) a = onward (with_drafts (changed s (λ _. Some (record { began = a.place; ops = [] })) a.drafts) a)
  after (takes s x) a = onward (with_taken (changed s (λ t. changed x (λ _. Some a.place) t) a.taken) a)
  after (reads s x r) a = onward (with_drafts (changed s (option_map (with_operation (reading x r))) a.drafts) a)
  after (writes s x r) a = onward (with_drafts (changed s (option_map (with_operation (writing x r))) a.drafts) a)
  after (forwards s k accepted) a =
      onward (with_drafts (changed s (λ _. None) a.drafts) (with_accepted (joined_by a.accepted s k (a.drafts s)) a))
  after (forwards s k (stale x)) a = onward a
  after (forwards s k withheld) a = onward a
  after (commits s) a = record a {
    place = suc a.place;
    accepted = map (commit_at s a.place) a.accepted;
    -- with its commit the session takes what it wrote
    taken = changed s (λ t x. cond (replaced_by s a.accepted x) (Some a.place) (t x)) a.taken;
    replacings = record { session = s; place = a.place; slots = replaced_by s a.accepted } ∷ a.replacings;
  }
  after (strikes s) a = onward (with_drafts (changed s (λ _. None) a.drafts) (with_accepted (filter (λ c. not (pending_of s c)) a.accepted) a))
  after passes a = onward a

  -- before the first step
  abbrev pub nothing_yet : Account R
  nothing_yet = record { place = 0; drafts = λ _. None; accepted = []; taken = λ _ _. None; replacings = [] }

  -- the account after all steps of a history
  abbrev pub account : List (Step R) → Account R
  account [] = nothing_yet
  account (e ∷ h) = after e (account h)

-- did another session replace the slot after a place
abbrev pub replaced_after : List Replacing → ℕ → ℕ → ℕ → Bool
replaced_after [] s x p = false
replaced_after (e ∷ es) s x p = (not (e.session == s) && (e.slots x && nat_lt p e.place)) || replaced_after es s x p

-- did another session replace the slot after this one last took it; no, if it never did
abbrev pub replaced_since : List Replacing → ℕ → ℕ → Option ℕ → Bool
replaced_since es s x None = false
replaced_since es s x (Some p) = replaced_after es s x p

-- did the change that is being written read the slot
abbrev pub draft_read : {R : Type 0} → Option (Draft R) → ℕ → Bool
draft_read None x = false
draft_read (Some d) x = has_read d.ops x

-- the session's change read the slot, and another session replaced it since this one last took it
abbrev pub stale_at : {R : Type 0} → Account R → ℕ → ℕ → Bool
stale_at a s x = draft_read (a.drafts s) x && replaced_since a.replacings s x (a.taken s x)
