-- Desks and open changes when copies or notices change. Assumes nothing.
use Rattle.std.proofs.Common.{◌≡◌, ℕ, ◌<◌, Bool, true, false, List, [], ◌∷◌, is_some, Some, None, Option, sym, refl, ap, ◌∙◌, arith}
use Rattle.std.specs.Option.{option_map}
use Rattle.std.specs.List.{AllByRecursion}
use Rattle.std.proofs.lemmas.Option.{none-some}
use Rattle.rule.specs.declared.Rule.{Rule}
use Rattle.store.specs.declared.Entry.{Entry}
use Rattle.store.specs.declared.Entry.TheVariants.{Intact}
use Rattle.law.specs.Operations.{Operation, wrote, has_read, touched}
use Rattle.law.specs.Accounts.{Draft, Replacing, replaced_after, Account}
use Rattle.law.proofs.Runs.{right_local}
use Rattle.std.proofs.lemmas.Bool.Decides.{nat_tests}
use Rattle.calls.specs.Checks.{desk_of, work_of}
use Rattle.calls.specs.State.{Phase, idle, opened, pending, Desk, Work, held, State}
use Rattle.calls.proofs.Invariant.{as_entries, DeskOk, OpenOk, ByPhase, has_pending}

-- what is noted before a place is not after it
pub none_after : (log : List Replacing) (s x p : ℕ) → AllByRecursion (λ (e : Replacing). e.place < p) log → replaced_after log s x p ≡ false
none_after [] s x p alls = refl
none_after (e ∷ log) s x p alls = grind (arith, nat_tests, none_after log s x p alls.1, alls.0)

-- every slot that an open change touches is one that it read
pub touched_read : (ops : List (Operation Rule)) → ((x : ℕ) → wrote ops x ≡ true → has_read ops x ≡ true) → (x : ℕ) → touched ops x ≡ true
    → has_read ops x ≡ true
touched_read ops read_first x t = grind (arith, read_first x)

-- an open change goes on while the copies that it read stay
pub copies_changed : (f g : ℕ → Option Rule) (w : Work) (t : Draft Rule) → ((x : ℕ) → w.read x ≡ true → g x ≡ f x) → OpenOk f w t → OpenOk g w t
copies_changed f g w t same ok = record {
  reads = ok.reads;
  stages = ok.stages;
  written_read = ok.written_read;
  read_held = λ x e. ap is_some (same x e) ∙ ok.read_held x e;
  right =
      right_local Intact (as_entries f) (as_entries g) t.ops
      (λ x h. ap (option_map Intact) (sym (same x (ok.reads x ∙ touched_read t.ops ok.written_read x h)))) ok.right;
}

module _ {n : ℕ} {entries : List Entry} {number : ℕ} {log : List Replacing} {s : ℕ} {taken : ℕ → Option ℕ} {d : Desk}
    (ok : DeskOk n entries number log s taken d) where
  -- fewer slots are held
  pub fewer_copies : (f : ℕ → Option Rule) → ((x : ℕ) → is_some (f x) ≡ true → f x ≡ d.copies x)
      → DeskOk n entries number log s taken (record { copies = f; notices = d.notices; learnt = d.learnt })
  fewer_copies f same = record {
    true_copy = λ x r e z. ok.true_copy x r (sym (same x (ap is_some e)) ∙ e) z;
    inside = λ x h. ok.inside x (was x h);
    told = λ x h. ok.told x (was x h);
    taken_once = λ x h. ok.taken_once x (was x h);
    not_learnt = λ x k h e. ok.not_learnt x k (was x h) e;
    within = ok.within;
    learnt_within = ok.learnt_within;
  }
    where
      was : (x : ℕ) → is_some (f x) ≡ true → held d x ≡ true
      was x h = ap is_some (sym (same x h)) ∙ h

  -- fewer slots that are not held have notices
  pub fewer_notices : (f : ℕ → Option ℕ) → ((x : ℕ) → held d x ≡ true → f x ≡ d.notices x) → ((x k : ℕ) → f x ≡ Some k → d.notices x ≡ Some k)
      → DeskOk n entries number log s taken (record { copies = d.copies; notices = f; learnt = d.learnt })
  fewer_notices f same less = record {
    true_copy = λ x r e z. ok.true_copy x r e (sym (same x (ap is_some e)) ∙ z);
    inside = ok.inside;
    told = λ x h. ap is_some (same x h) ∙ ok.told x h;
    taken_once = ok.taken_once;
    not_learnt = λ x k h e. ok.not_learnt x k h (less x k e);
    within = λ x k e. ok.within x k (less x k e);
    learnt_within = ok.learnt_within;
  }

  -- everything is learnt, and no slot with a notice is held
  pub all_learnt : ((x : ℕ) → held d x ≡ true → d.notices x ≡ None)
      → DeskOk n entries number log s taken (record { copies = d.copies; notices = d.notices; learnt = number })
  all_learnt calm = record {
    true_copy = ok.true_copy;
    inside = ok.inside;
    told = ok.told;
    taken_once = ok.taken_once;
    not_learnt = λ x k h e. absurd (none-some k (sym (calm x h) ∙ e));
    within = ok.within;
    learnt_within = omega arith;
  }

-- another desk with the copies that an open change read, and with no notice where a pending change writes
pub desk_changed : (b : State) (a : Account Rule) (s : ℕ) (e : Desk) (p : Phase)
    → (p ≡ opened → (x : ℕ) → (work_of b s).read x ≡ true → held (desk_of b s) x ≡ true → e.copies x ≡ (desk_of b s).copies x)
    → (p ≡ pending → (x : ℕ) → (desk_of b s).notices x ≡ None → e.notices x ≡ None)
    → ByPhase p b.entries (desk_of b s) (a.drafts s) (has_pending s a.accepted) (work_of b s)
    → ByPhase p b.entries e (a.drafts s) (has_pending s a.accepted) (work_of b s)
desk_changed b a s e idle copies notices ok = ok
desk_changed b a s e opened copies notices ok =
    (ok.0, ok.1, copies_changed (desk_of b s).copies e.copies (work_of b s) ok.0 (λ x r. copies refl x r (ok.2.read_held x r)) ok.2)
desk_changed b a s e pending copies notices ok =
    (ok.0, ok.1, record { calm = λ x w. notices refl x (ok.2.calm x w); sound = ok.2.sound })

-- a pending session among fewer changes
pub has_weaker : (p : Phase) (entries : List Entry) (d : Desk) (draft : Option (Draft Rule)) (has still : Bool) (w : Work)
    → (has ≡ true → still ≡ true) → ByPhase p entries d draft has w → ByPhase p entries d draft still w
has_weaker idle entries d draft has still w f ok = ok
has_weaker opened entries d draft has still w f ok = ok
has_weaker pending entries d draft has still w f ok = (ok.0, f ok.1, ok.2)

-- the same of a session of a state
pub work_weaker : (b : State) (a : Account Rule) (s : ℕ) (still : Bool) (p : Phase) → (has_pending s a.accepted ≡ true → still ≡ true)
    → ByPhase p b.entries (desk_of b s) (a.drafts s) (has_pending s a.accepted) (work_of b s)
    → ByPhase p b.entries (desk_of b s) (a.drafts s) still (work_of b s)
work_weaker b a s still p = has_weaker p b.entries (desk_of b s) (a.drafts s) (has_pending s a.accepted) still (work_of b s)
