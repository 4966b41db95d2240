-- The law of a history that led from one list of entries to another. Assumes nothing.
use Rattle.std.specs.Prelude.{◌≡◌, ℕ, ◌<◌, true, false, List, [], ◌∷◌, Some}
use Rattle.law.specs.Changes.{Change, Explains, committed_of}
use Rattle.law.specs.Orders.{Pairwise, Reordering, Ascending, in_stamp_order}
use Rattle.law.specs.Accounts.{Outcome, accepted, stale, withheld, Step, begins, takes, reads, writes, forwards, commits, strikes, passes, Account, account, stale_at}

module _ {R E : Type 0} (intact : R → E) (first : List E) (last : List E) where
  -- the changes, in the order of their stamps, explain how `first` became `last`; no two of them have one stamp
  pub record ByStamp (changes : List (Change R)) : Type 0 where
    pub explains : Explains intact first (in_stamp_order changes) last
    pub ascending : Ascending (in_stamp_order changes)
    pub all_of_them : Reordering changes (in_stamp_order changes)

module _ {R : Type 0} where
  -- a change was committed at an earlier place of the history than another began
  abbrev pub CommittedBefore : Change R → Change R → Type 0
  CommittedBefore c b = (p : ℕ) × (c.committed ≡ Some p) × (p < b.began)

  -- a change that was committed before another began stands before it: of every two, the latter was not committed before the former began
  abbrev pub EarlierFirst : List (Change R) → Type 0
  EarlierFirst cs = Pairwise (λ b c. CommittedBefore c b → ⊥) cs

module _ {R E : Type 0} (intact : R → E) (first : List E) (last : List E) where
  -- the changes, in the order of their acceptance, explain how `first` became `last`,
  -- and one that was committed before another began stands before it
  pub record ByAcceptance (changes : List (Change R)) : Type 0 where
    pub explains : Explains intact first changes last
    pub earlier_first : EarlierFirst changes

module _ {R : Type 0} where
  -- no slot that the session's change read was replaced by another session since this one last took it
  abbrev pub NothingStale : Account R → ℕ → Type 0
  NothingStale a s = (x : ℕ) → stale_at a s x ≡ false

  -- the slot told is the lowest one that is stale
  abbrev pub LowestStale : Account R → ℕ → ℕ → Type 0
  LowestStale a s x = (stale_at a s x ≡ true) × ((y : ℕ) → y < x → stale_at a s y ≡ false)

  -- a change put forward is refused as stale exactly when it is, with the lowest slot told
  abbrev pub RightOutcome : Account R → ℕ → Outcome → Type 0
  RightOutcome a s accepted = NothingStale a s
  RightOutcome a s (stale x) = LowestStale a s x
  RightOutcome a s withheld = NothingStale a s

  -- the same of one step, made where the account was `a`
  abbrev pub RightStep : Account R → Step R → Type 0
  RightStep a (begins s) = Unit {0}
  RightStep a (takes s x) = Unit {0}
  RightStep a (reads s x r) = Unit {0}
  RightStep a (writes s x r) = Unit {0}
  RightStep a (forwards s k o) = RightOutcome a s o
  RightStep a (commits s) = Unit {0}
  RightStep a (strikes s) = Unit {0}
  RightStep a passes = Unit {0}

  -- and of every step of a history
  abbrev pub StaleExactly : List (Step R) → Type 0
  StaleExactly [] = Unit {0}
  StaleExactly (e ∷ h) = RightStep (account h) e × StaleExactly h

-- the law of a history that led from `first` to `last`
pub record Law {R E : Type 0} (intact : R → E) (first : List E) (history : List (Step R)) (last : List E) : Type 0 where
  pub by_stamp : ByStamp intact first last (committed_of (account history).accepted)
  pub by_acceptance : ByAcceptance intact first last (committed_of (account history).accepted)
  pub stale_exactly : StaleExactly history
