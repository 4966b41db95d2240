-- What results that borrow from a text hold. Assumes nothing.
use Rattle.std.specs.Prelude.{◌≡◌, ℕ, ◌+◌, ◌-◌, List, [], ◌∷◌, length, Some, None, Ok, Err, Option, Result}
use Rattle.std.specs.Borrow.{Bor}
use Rattle.refusal.specs.declared.Refusal.{Refusal}
use Rattle.rule.specs.Reading.{fields, unreadable_at}

abbrev pub octet_and_rest : ℕ × Bor (List ℕ) → ℕ × List ℕ
octet_and_rest p = (p.0, p.1.now)

-- the fields behind the first, where a space stands behind it
abbrev pub fields_behind : Option (Bor (List ℕ)) → List (List ℕ)
fields_behind None = []
fields_behind (Some rest) = fields rest.now

-- the length of that space and of what stands behind it
abbrev pub length_behind : Option (Bor (List ℕ)) → ℕ
length_behind None = 0
length_behind (Some rest) = 1 + length rest.now

-- what a field reads as and what stands behind it, or its place
abbrev pub found : {T : Type 0} → Option T → Option (Bor (List ℕ)) → ℕ → Result (T × Option (Bor (List ℕ))) Refusal
found None behind place = Err (unreadable_at place)
found (Some x) behind place = Ok (x, behind)

-- r is what reading the first field of the rest gives, where the text ends at this place
pub record ReadsField {T : Type 0} (post : List ℕ → Option T → Type 0) (rest : Bor (List ℕ)) (end : ℕ) (r : Result (T × Option (Bor (List ℕ))) Refusal) : Type 0 where
  pub field : List ℕ
  pub behind : Option (Bor (List ℕ))
  pub given : Option T
  pub is : post field given
  pub cut : fields rest.now ≡ field ∷ fields_behind behind
  pub long : length rest.now ≡ length field + length_behind behind
  pub value : r ≡ found given behind (end - length rest.now)
