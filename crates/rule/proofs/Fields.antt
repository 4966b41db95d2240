-- How a text is cut into fields, and put together again. Assumes nothing.
use Rattle.std.proofs.Common.{◌≡◌, ℕ, ◌+◌, Bool, true, false, cond, eqb, List, [], ◌∷◌, ◌++◌, length, Some, None, sym, refl, ap, ◌∙◌, arith, length-append}
use Rattle.std.proofs.lemmas.Bool.{ne_eqb, eqb-true}
use Rattle.text.specs.Cutting.{split}
use Rattle.text.proofs.Cuts.{Lacks, split_cuts, split_lacks}
use Rattle.rule.specs.Reading.{fields, onto_first}

-- a text without a space is one field
pub fields_one : (f : List ℕ) → Lacks 32 f → fields f ≡ f ∷ []
fields_one [] h = refl
fields_one (b ∷ f) h = rw (ne_eqb b 32 h.0, fields_one f h.1)

-- the first field ends at the first space
pub fields_more : (f rest : List ℕ) → Lacks 32 f → fields (f ++ 32 ∷ rest) ≡ f ∷ fields rest
fields_more [] rest h = refl
fields_more (b ∷ f) rest h = rw (ne_eqb b 32 h.0, fields_more f rest h.1)

-- the first field by `split`
pub fields_split : (bs f rest : List ℕ) → Some (f, rest) ≡ split 32 bs → (fields bs ≡ f ∷ fields rest) × (length bs ≡ length f + (1 + length rest))
fields_split bs f rest e =
    let cut = split_cuts 32 bs f rest (sym e) in
    (ap fields cut.whole ∙ fields_more f rest cut.first, omega (arith, ap length cut.whole, length-append f (32 ∷ rest)))

pub fields_unsplit : (bs : List ℕ) → None ≡ split 32 bs → (fields bs ≡ bs ∷ []) × (length bs ≡ length bs + 0)
fields_unsplit bs e = (fields_one bs (split_lacks 32 bs (sym e)), omega arith)

-- the fields with single spaces between them
abbrev pub spaced : List (List ℕ) → List ℕ
spaced [] = []
spaced (f ∷ []) = f
spaced (f ∷ g ∷ fs) = f ++ 32 ∷ spaced (g ∷ fs)

spaced_onto : (b : ℕ) (fs : List (List ℕ)) → spaced (onto_first b fs) ≡ b ∷ spaced fs
spaced_onto b [] = refl
spaced_onto b (f ∷ []) = refl
spaced_onto b (f ∷ g ∷ fs) = refl

-- there is a first field
pub record SomeField (fs : List (List ℕ)) : Type 0 where
  pub head : List ℕ
  pub tail : List (List ℕ)
  pub is : fs ≡ head ∷ tail

some_by : (b : ℕ) (t : Bool) (fs : List (List ℕ)) → SomeField (cond t ([] ∷ fs) (onto_first b fs))
some_by b true fs = record { head = []; tail = fs; is = refl }
some_by b false [] = record { head = b ∷ []; tail = []; is = refl }
some_by b false (f ∷ fs) = record { head = b ∷ f; tail = fs; is = refl }

pub some_field : (bs : List ℕ) → SomeField (fields bs)
some_field [] = record { head = []; tail = []; is = refl }
some_field (b ∷ bs) = some_by b (eqb b 32) (fields bs)

spaced_by : (b : ℕ) (bs : List ℕ) (t : Bool) → eqb b 32 ≡ t → (fs : List (List ℕ)) → SomeField fs → spaced fs ≡ bs → spaced (cond t ([] ∷ fs) (onto_first b fs)) ≡ b ∷ bs
spaced_by b bs true e fs some h = ap (λ l. spaced ([] ∷ l)) some.is ∙ ap (λ l. 32 ∷ spaced l) (sym some.is) ∙ ap (λ l. 32 ∷ l) h ∙ ap (λ c. c ∷ bs) (sym (eqb-true b 32 e))
spaced_by b bs false e fs some h = spaced_onto b fs ∙ ap (λ l. b ∷ l) h

-- they are the text again
pub spaced_fields : (bs : List ℕ) → spaced (fields bs) ≡ bs
spaced_fields [] = refl
spaced_fields (b ∷ bs) = spaced_by b bs (eqb b 32) refl (fields bs) (some_field bs) (spaced_fields bs)
