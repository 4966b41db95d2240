-- What does not stand in a text. Assumes nothing.
use Rattle.std.specs.Prelude.{ℕ, List, ◌≢◌}
use Rattle.std.specs.List.{AllByRecursion}

-- no byte of the text is a space
abbrev pub Unspaced : List ℕ → Type 0
Unspaced bs = AllByRecursion (λ b. b ≢ 32) bs
