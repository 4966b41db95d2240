-- Histories that a book with a fault would give, with the entries at their ends: the law holds of none of them. Assumes nothing.
use Rattle.std.specs.Prelude.{ℕ, false, List, [], ◌∷◌, ◌++◌, reverse, take}
use Rattle.refusal.specs.declared.Refusal.TheVariants.{Stale}
use Rattle.rule.specs.Making.{open_rule}
use Rattle.store.specs.declared.Entry.{Entry}
use Rattle.store.specs.declared.Entry.TheVariants.{Intact}
use Rattle.calls.specs.Words.{begin, fetch, read, write, forward, commit, learn, receipt, truncate}
use Rattle.calls.specs.Words.{done, rule, place, number, learnt, removed, refused}
use Rattle.calls.specs.Histories.{Event, LawOf}
use Rattle.histories.specs.Book.{four, block_rule, at, only_one, ◌gives◌, reads_one, writes_one, first_change, Plays}

-- a history on four open rules that ended with these entries
pub record Breaks (agreed : ℕ) (events : List Event) (last : List Entry) : Type 0 where
  -- so many events are those of a book without fault
  pub agrees : Plays (take agreed events)
  -- the law does not hold of the whole
  pub unlawful : LawOf four (reverse events) last → ⊥

-- four open rules but for slot 1, which has the block rule
abbrev pub one_blocked : List Entry
one_blocked = Intact open_rule ∷ Intact block_rule ∷ Intact open_rule ∷ Intact open_rule ∷ []

-- no later-conflict check: what was read under a later stamp is written under an earlier one
abbrev pub without_later_check : List Event
without_later_check =
    reads_one 0 open_rule ++ (forward 0 (at 9 0) gives place 0)
    ∷ writes_one 1 block_rule ++ (forward 1 (at 4 0) gives place 1) ∷ (commit 1 gives number 1) ∷ (commit 0 gives number 1) ∷ []

-- no pending check: a slot is read while a pending change with an earlier stamp writes it
abbrev pub without_pending_check : List Event
without_pending_check =
    writes_one 0 block_rule ++ (forward 0 (at 4 0) gives place 0)
    ∷ writes_one 1 block_rule ++ (forward 1 (at 9 0) gives place 1) ∷ (commit 0 gives number 1) ∷ (commit 1 gives number 2) ∷ []

-- no stale check: a slot that was read is replaced before the change is put forward
abbrev pub without_stale_check : List Event
without_stale_check = reads_one 1 open_rule ++ first_change 0 (at 4 0) ++ (forward 1 (at 9 0) gives place 1) ∷ []

-- a receipt that removes every notice: that of the first takes the second one too
abbrev pub receipt_takes_all : List Event
receipt_takes_all =
    (fetch 0 1 gives rule open_rule) ∷ first_change 1 (at 1 0)
    ++ (learn 0 gives learnt 1 only_one false) ∷ (fetch 0 1 gives rule block_rule)
    ∷ (begin 1 gives done) ∷ (read 1 1 gives rule block_rule) ∷ (write 1 1 open_rule gives done)
    ∷ (forward 1 (at 2 0) gives place 1) ∷ (commit 1 gives number 2) ∷ (receipt 0 1 gives done)
    ∷ (begin 0 gives done) ∷ (read 0 1 gives rule block_rule) ∷ (forward 0 (at 3 0) gives place 2) ∷ []

-- a learn that keeps the copies, while the receipt takes the notices
abbrev pub learn_keeps_copies : List Event
learn_keeps_copies =
    (fetch 0 1 gives rule open_rule) ∷ first_change 1 (at 1 0)
    ++ (learn 0 gives learnt 1 only_one false) ∷ (receipt 0 1 gives done)
    ∷ (begin 0 gives done) ∷ (read 0 1 gives rule open_rule) ∷ (forward 0 (at 3 0) gives place 1) ∷ []

-- a commit that gives no notices
abbrev pub commit_tells_nobody : List Event
commit_tells_nobody =
    (fetch 0 1 gives rule open_rule) ∷ first_change 1 (at 1 0)
    ++ (learn 0 gives learnt 1 (λ _. false) false)
    ∷ (begin 0 gives done) ∷ (read 0 1 gives rule open_rule) ∷ (forward 0 (at 3 0) gives place 1) ∷ []

-- a commit that forgets one put: slots 1 and 2 were written
abbrev pub commit_forgets_a_put : List Event
commit_forgets_a_put =
    writes_one 0 block_rule
    ++ (fetch 0 2 gives rule open_rule) ∷ (read 0 2 gives rule open_rule) ∷ (write 0 2 block_rule gives done)
    ∷ (forward 0 (at 1 0) gives place 0) ∷ (commit 0 gives number 1) ∷ []

-- a commit that pretends
abbrev pub commit_pretends : List Event
commit_pretends = first_change 0 (at 1 0)

-- a truncation that drops the threshold, so that an early stamp is accepted
abbrev pub truncation_drops_threshold : List Event
truncation_drops_threshold =
    first_change 0 (at 5 0) ++ (truncate (at 6 0) gives removed 1)
    ∷ reads_one 1 block_rule ++ (forward 1 (at 4 0) gives place 0) ∷ (commit 1 gives number 1) ∷ []

-- a fetch that leaves the old notice: refused as stale though nothing was replaced since
abbrev pub fetch_leaves_notice : List Event
fetch_leaves_notice =
    (fetch 0 1 gives rule open_rule) ∷ first_change 1 (at 1 0)
    ++ (learn 0 gives learnt 1 only_one false) ∷ (fetch 0 1 gives rule block_rule)
    ∷ (begin 0 gives done) ∷ (read 0 1 gives rule block_rule) ∷ (forward 0 (at 3 0) gives refused (Stale 1)) ∷ []

-- a change without writings that is let past the checks
abbrev pub reader_let_past : List Event
reader_let_past =
    writes_one 0 block_rule ++ (forward 0 (at 4 0) gives place 0)
    ∷ reads_one 1 open_rule ++ (forward 1 (at 9 0) gives place 1) ∷ (commit 0 gives number 1) ∷ (commit 1 gives number 1) ∷ []

-- every forward accepted, also under a stamp that is taken
abbrev pub every_forward_accepted : List Event
every_forward_accepted =
    (begin 0 gives done) ∷ (forward 0 (at 5 1) gives place 0) ∷ (begin 1 gives done) ∷ (forward 1 (at 5 1) gives place 1)
    ∷ (commit 0 gives number 0) ∷ (commit 1 gives number 0) ∷ []

-- all of them
pub record Broken : Type 0 where
  pub no_later_check : Breaks 8 without_later_check one_blocked
  pub no_pending_check : Breaks 9 without_pending_check one_blocked
  pub no_stale_check : Breaks 9 without_stale_check one_blocked
  pub receipt_that_takes_all : Breaks 16 receipt_takes_all four
  pub learn_that_keeps_copies : Breaks 10 learn_keeps_copies one_blocked
  pub commit_that_tells_nobody : Breaks 7 commit_tells_nobody one_blocked
  pub commit_that_forgets_a_put : Breaks 9 commit_forgets_a_put one_blocked
  pub commit_that_pretends : Breaks 6 commit_pretends four
  pub truncation_that_drops_the_threshold : Breaks 10 truncation_drops_threshold one_blocked
  pub fetch_that_leaves_the_notice : Breaks 11 fetch_leaves_notice one_blocked
  pub readers_past_the_checks : Breaks 8 reader_let_past one_blocked
  pub all_accepted : Breaks 3 every_forward_accepted four
