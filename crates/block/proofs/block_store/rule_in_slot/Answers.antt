use Rattle.std.proofs.Common.{◌≡◌, ℕ, ◌/◌, ◌%◌, [], slice_index_or, Ok, Err, Result, MatchResult, rules, ap, ◌∙◌}
use Rattle.std.proofs.lemmas.Result.{err_from_is_err_and}
use Rattle.std.specs.Result.{IsErrAnd}
use Rattle.refusal.specs.declared.Fault.{Fault}
use Rattle.refusal.specs.declared.Refusal.{Refusal}
use Rattle.refusal.specs.declared.Refusal.TheVariants.{Damaged}
use Rattle.rule.specs.declared.Rule.{Rule}
use Rattle.store.specs.Entries.{answer}
use Rattle.block.specs.Layout.{rule_at, damage_of}
use Rattle.block.specs.Memory.{slots_in, block_at, read_in, entry_from, entry_at}
use Rattle.block.proofs.Chunks.{block_chunk}
use Rattle.block.proofs.block_store.rule_in_slot.Goals as goal

-- what is read from block n is what its entry answers
answered : {Q : Fault → Refusal → Type 0} (x : Result Rule Fault) (y : Result Rule Refusal) (n : ℕ) → MatchResult x (λ rule. y ≡ Ok rule) (λ fault. IsErrAnd y (Q fault)) → ((fault : Fault) (refusal : Refusal) → Q fault refusal → refusal ≡ Damaged (record { fault = fault; block = n })) → y ≡ answer (entry_from x n)
answered (Ok rule) y n e why = e
answered (Err fault) y n e why = let out = err_from_is_err_and y e in out.1 ∙ ap Err (why fault out.0 out.2)

pub returns : goal.returns
unfolding entry_at
returns c =
    let bytes = c.args.bytes.now in
    let k = c.args.count in
    let n = c.args.slot / 32 in
    let block = ap (λ l. slice_index_or l n []) c.as_chunks.ensures.front ∙ block_chunk bytes k c.args.slot [] c.requires.0 c.requires.1 in
    let read : c.rule_in_block.result ≡ read_in (damage_of (block_at bytes n) n (slots_in k n)) (rule_at (block_at bytes n) (c.args.slot % 32)) = search (rules, block) in
    answered _ _ n c.map_err.ensures.cases (λ fault refusal q. search rules)
    ∙ ap (λ r. answer (entry_from r n)) read
