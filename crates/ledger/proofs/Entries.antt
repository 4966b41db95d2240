-- The clashes of a queue entry are those of the change that it is made of. Assumes nothing.
use Rattle.std.proofs.Common.{◌≡◌, ℕ, List, ap}
use Rattle.slots.specs.Meaning.{has}
use Rattle.law.specs.Changes.{Key}
use Rattle.calls.specs.Sets.{first_place}
use Rattle.calls.specs.State.{Work, Queued}
use Rattle.calls.specs.Checks.{later_clash, pending_clash}
use Rattle.calls.specs.Effects.{entry_of}
use Rattle.queue.specs.declared.entry.Change.{Change}
use Rattle.queue.specs.Entries.{key_view, change_view, meets_later, meets_pending}

module _ (c : Change) (s : ℕ) (k : Key) (w : Work) (e : change_view c ≡ entry_of s k w) (n : ℕ) (q : List Queued) where
  pub later_same : first_place (meets_later n (key_view c.key) (has c.read) (has c.written)) q ≡ first_place (later_clash n k w) q
  later_same = ap (λ p. first_place (meets_later n p.key p.read p.written) q) e

  pub pending_same : first_place (meets_pending n (key_view c.key) (has c.read)) q ≡ first_place (pending_clash n k w) q
  pending_same = ap (λ p. first_place (meets_pending n p.key p.read) q) e
