-- Worked histories of a small book, by the definitions of the calls. Assumes nothing.
use Rattle.std.specs.Prelude.{◌≡◌, ℕ, zero, suc, true, false, List, [], ◌∷◌, ◌++◌, Some, Err, codes, nat_eq, refl}
use Rattle.std.specs.Option.{option_map}
use Rattle.std.specs.Result.{result_ok}
use Rattle.text.specs.Octets.{octet_of}
use Rattle.refusal.specs.declared.Refusal.TheVariants.{StampTooEarly, StampTaken, QueueFull, LaterConflict, PendingConflict, Stale, NoRule, Unreadable}
use Rattle.rule.specs.declared.Parts.{Parts}
use Rattle.rule.specs.declared.Rule.{Rule}
use Rattle.rule.specs.Making.{rule_with, facts, open_rule, parts_of}
use Rattle.rule.specs.Reading.{read_rule}
use Rattle.block.specs.Layout.{word, laid_out}
use Rattle.store.specs.declared.Entry.{Entry}
use Rattle.store.specs.declared.Entry.TheVariants.{Intact}
use Rattle.calls.specs.State.{just_made}
use Rattle.calls.specs.Words.{Call, begin, fetch, read, write, forward, commit, learn, receipt, truncate}
use Rattle.calls.specs.Words.{done, rule, place, number, learnt, removed, refused}
use Rattle.calls.specs.Histories.{Event}
use Rattle.histories.specs.Book.{block_rule, at, only_one, ◌gives◌, reads_one, writes_one, first_change, Plays, PlaysFrom, PlaysAfter}

-- a change that did nothing is accepted, at the first place
abbrev pub an_empty_change : List Event
an_empty_change = (begin 0 gives done) ∷ (forward 0 (at 0 0) gives place 0) ∷ []

-- the second change under one stamp is refused, with the place of the first
abbrev pub a_stamp_used_twice : List Event
a_stamp_used_twice =
    (begin 0 gives done) ∷ (forward 0 (at 5 1) gives place 0)
    ∷ (begin 1 gives done) ∷ (forward 1 (at 5 1) gives refused (StampTaken 0)) ∷ []

-- a stamp at the threshold is too early, the next one is not
abbrev pub a_stamp_at_the_threshold : List Event
a_stamp_at_the_threshold =
    (truncate (at 5 1) gives removed 0) ∷ (begin 0 gives done)
    ∷ (forward 0 (at 5 1) gives refused StampTooEarly) ∷ (forward 0 (at 5 2) gives place 0) ∷ []

-- what was read under a later stamp is not written under an earlier one
abbrev pub a_reader_with_a_later_stamp : List Event
a_reader_with_a_later_stamp =
    reads_one 0 open_rule ++ (forward 0 (at 9 0) gives place 0)
    ∷ writes_one 1 block_rule ++ (forward 1 (at 4 0) gives refused (LaterConflict 0)) ∷ (forward 1 (at 10 0) gives place 1) ∷ []

-- a slot is read while a pending change writes it: refused while that waits, and stale when it is committed
abbrev pub read_beside_a_write : Rule → List Event
read_beside_a_write r =
    reads_one 1 open_rule ++ writes_one 0 r ++ (forward 0 (at 4 0) gives place 0)
    ∷ (forward 1 (at 9 0) gives refused (PendingConflict 0)) ∷ (commit 0 gives number 1)
    ∷ (forward 1 (at 9 0) gives refused (Stale 1)) ∷ []

-- a pending change learns that a slot which it read was replaced, and goes on
abbrev pub a_learn_while_pending : List Event
a_learn_while_pending =
    reads_one 0 open_rule ++ (forward 0 (at 4 0) gives place 0)
    ∷ writes_one 1 block_rule ++ (forward 1 (at 9 0) gives place 1) ∷ (commit 1 gives number 1)
    ∷ (learn 0 gives learnt 1 only_one false) ∷ (commit 0 gives number 1) ∷ []

-- a receipt of the first notice leaves the second
abbrev pub a_receipt_of_an_older_notice : List Event
a_receipt_of_an_older_notice =
    (fetch 0 1 gives rule open_rule) ∷ first_change 1 (at 1 0)
    ++ (learn 0 gives learnt 1 only_one false) ∷ (fetch 0 1 gives rule block_rule)
    ∷ (begin 1 gives done) ∷ (read 1 1 gives rule block_rule) ∷ (write 1 1 open_rule gives done)
    ∷ (forward 1 (at 2 0) gives place 1) ∷ (commit 1 gives number 2) ∷ (receipt 0 1 gives done)
    ∷ (begin 0 gives done) ∷ (read 0 1 gives rule block_rule) ∷ (forward 0 (at 3 0) gives refused (Stale 1)) ∷ []

-- n empty changes, each committed, under stamps that rise from 0
abbrev pub empty_changes : ℕ → List Call
empty_changes zero = []
empty_changes (suc n) = empty_changes n ++ begin 0 ∷ forward 0 (at n 0) ∷ commit 0 ∷ []

-- after 32 of them the queue is full, and truncation makes room
abbrev pub a_full_queue : List Event
a_full_queue =
    (begin 0 gives done) ∷ (forward 0 (at 32 0) gives refused QueueFull)
    ∷ (truncate (at 31 0) gives removed 32) ∷ (forward 0 (at 32 0) gives place 0) ∷ []

-- a rule over a range of 256 addresses
abbrev pub range_parts : ℕ → ℕ → ℕ → Parts
range_parts address action last = record { address = address; prefix = 24; action = action; first = 0; last = last }

-- the tills at 10.0.8.0/24
unfoldable pub old_tills : Rule
old_tills = rule_with (range_parts 167774208 0 65535) (facts (range_parts 167774208 0 65535) refl)

-- the tills moved to 10.0.9.0/24
unfoldable pub new_tills : Rule
new_tills = rule_with (range_parts 167774464 0 65535) (facts (range_parts 167774464 0 65535) refl)

-- the low ports of the old range blocked
unfoldable pub old_block : Rule
old_block = rule_with (range_parts 167774208 1 1023) (facts (range_parts 167774208 1 1023) refl)

-- those of the new range
unfoldable pub new_block : Rule
new_block = rule_with (range_parts 167774464 1 1023) (facts (range_parts 167774464 1 1023) refl)

-- the tills are in slot 0, slot 1 is free
abbrev pub shop : List Entry
shop = Intact old_tills ∷ Intact open_rule ∷ []

-- while one editor moves the tills, another blocks ports in the range still on its page: it is stale, learns, and starts anew
abbrev pub tills_moved : List Event
tills_moved =
    (fetch 1 0 gives rule old_tills) ∷ (fetch 1 1 gives rule open_rule)
    ∷ (begin 0 gives done) ∷ (fetch 0 0 gives rule old_tills) ∷ (read 0 0 gives rule old_tills) ∷ (write 0 0 new_tills gives done)
    ∷ (forward 0 (at 800 0) gives place 0) ∷ (commit 0 gives number 1)
    ∷ (begin 1 gives done) ∷ (read 1 0 gives rule old_tills) ∷ (read 1 1 gives rule open_rule) ∷ (write 1 1 old_block gives done)
    ∷ (forward 1 (at 805 1) gives refused (Stale 0)) ∷ (learn 1 gives learnt 1 (λ x. nat_eq x 0) true)
    ∷ (begin 1 gives done) ∷ (fetch 1 0 gives rule new_tills) ∷ (read 1 0 gives rule new_tills) ∷ (read 1 1 gives rule open_rule)
    ∷ (write 1 1 new_block gives done) ∷ (forward 1 (at 806 1) gives place 1) ∷ (commit 1 gives number 2) ∷ []

-- the rest of a rule's text behind its network
abbrev pub rule_text : List ℕ → List ℕ
rule_text network = network ++ codes " allow 0-65535"

-- the parts of 10.0.0.0/8 allow 0-65535
abbrev pub ten_parts : Parts
ten_parts = record { address = 167772160; prefix = 8; action = 0; first = 0; last = 65535 }

-- all of them
pub record Worked : Type 0 where
  pub empty_change : Plays an_empty_change
  pub stamp_used_twice : Plays a_stamp_used_twice
  pub stamp_at_the_threshold : Plays a_stamp_at_the_threshold
  pub reader_with_a_later_stamp : Plays a_reader_with_a_later_stamp
  pub slot_under_a_pending_writing : Plays (read_beside_a_write block_rule)
  -- also where the rule written is the one that was there
  pub same_rule_written : Plays (read_beside_a_write open_rule)
  pub learn_while_pending : Plays a_learn_while_pending
  pub receipt_of_an_older_notice : Plays a_receipt_of_an_older_notice
  pub full_queue : PlaysAfter (empty_changes 32) a_full_queue
  pub tills_that_moved : PlaysFrom (just_made shop) tills_moved
  -- 192.0.2.0/24 block 0-65535 in a block of one slot has the check 0x25FD
  pub check_of_one_slot : word (laid_out 0 (block_rule ∷ [])) 0 ≡ 0x25FD
  -- 0 and 255 are octets; a text with 00, 010 or 256 is unreadable
  pub octets_that_read : (octet_of (codes "0") ≡ Some 0) × (octet_of (codes "255") ≡ Some 255)
  pub octets_that_do_not : (read_rule (rule_text (codes "00.0.0.0/0")) ≡ Err (Unreadable 0))
      × (read_rule (rule_text (codes "010.0.0.0/0")) ≡ Err (Unreadable 0)) × (read_rule (rule_text (codes "256.0.0.0/0")) ≡ Err (Unreadable 0))
  -- 10.0.0.0/8 is a rule; with a bit behind the prefix, or a prefix of 33, there is none
  pub address_on_its_prefix : option_map parts_of (result_ok (read_rule (rule_text (codes "10.0.0.0/8")))) ≡ Some ten_parts
  pub address_off_its_prefix : read_rule (rule_text (codes "10.0.0.1/8")) ≡ Err (NoRule 0)
  pub prefix_too_long : read_rule (rule_text (codes "0.0.0.0/33")) ≡ Err (NoRule 0)
