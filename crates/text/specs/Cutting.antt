-- Where a text is cut in two. Assumes nothing.
use Rattle.std.specs.Prelude.{ℕ, cond, List, [], ◌∷◌, Some, None, Option, ◌==◌}
use Rattle.std.specs.Borrow.{Bor}
use Rattle.std.specs.Option.{option_map}

-- what stands before and behind the first byte c
abbrev pub split : ℕ → List ℕ → Option (List ℕ × List ℕ)
split c [] = None
split c (b ∷ bs) = cond (b == c) (Some ([], bs)) (option_map (λ p. (b ∷ p.0, p.1)) (split c bs))

-- what two references hold
abbrev pub held : Bor (List ℕ) × Bor (List ℕ) → List ℕ × List ℕ
held p = (p.0.now, p.1.now)
