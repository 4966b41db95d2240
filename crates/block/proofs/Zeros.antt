-- Bytes that are seen together are zero if each is. Assumes nothing.
use Rattle.std.proofs.Common.{◌≡◌, ℕ, Bool, true, false, ◌&&◌, eqb, List, [], ◌∷◌, fold, sym, ap, ◌∙◌}
use Rattle.std.specs.Prelude.{bit_or}
use Rattle.block.specs.Layout.{all_zero}
use Rattle.block.specs.Right.{or_test, and_true}

and_more : (x y z t : Bool) → t ≡ (x && y) → (t && z) ≡ (x && (y && z))
and_more true y z t e = ap (λ b. b && z) e
and_more false y z t e = ap (λ b. b && z) e

seen_zero : (seen : ℕ) (bytes : List ℕ) → eqb (fold bit_or seen bytes) 0 ≡ (eqb seen 0 && all_zero bytes)
unfolding all_zero
seen_zero seen [] = sym (and_true (eqb seen 0))
seen_zero seen (byte ∷ bytes) = seen_zero (bit_or seen byte) bytes ∙ and_more (eqb seen 0) (eqb byte 0) (all_zero bytes) _ (or_test seen byte)

pub all_seen_zero : (bytes : List ℕ) → eqb (fold bit_or 0 bytes) 0 ≡ all_zero bytes
all_seen_zero bytes = seen_zero 0 bytes
