-- What is written behind what stands already. Assumes nothing.
use Rattle.std.specs.Prelude.{◌≡◌, ℕ, List, ◌++◌, Result, MatchResult}
use Rattle.std.specs.declared.alloc.AllocError.{AllocError}

-- the text stands behind what stood before; where there was no memory for all of it, what stood before still stands in front
abbrev pub Appends : List ℕ → List ℕ → Result (Unit {0}) AllocError → List ℕ → Type 0
Appends before text r after = MatchResult r (λ _. after ≡ before ++ text) (λ _. (some : List ℕ) × (after ≡ before ++ some))
