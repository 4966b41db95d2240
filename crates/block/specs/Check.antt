-- The check of RFC 1071: the one's complement of the one's complement sum of 16-bit words. Assumes nothing.
use Rattle.std.specs.Prelude.{ℕ, ◌+◌, ◌-◌, ◌*◌, cond, List, [], ◌∷◌, fold, nat_lt}

-- one's complement addition: a carry out of 16 bits is added back
infixl 65 ◌⊕◌
abbrev pub ◌⊕◌ : ℕ → ℕ → ℕ
a ⊕ b = cond (nat_lt (a + b) 65536) (a + b) (a + b - 65535)

-- the 16-bit words of bytes, high byte first; a zero byte follows a last odd one
unfoldable pub words : List ℕ → List ℕ
words [] = []
words (high ∷ []) = (high * 256) ∷ []
words (high ∷ low ∷ bytes) = (high * 256 + low) ∷ words bytes

-- the words added in one's complement
unfoldable pub ones_sum : List ℕ → ℕ
ones_sum ws = fold ◌⊕◌ 0 ws

-- the sum complemented
unfoldable pub check : List ℕ → ℕ
check bytes = 65535 - ones_sum (words bytes)
