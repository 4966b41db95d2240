-- Where `split` cuts. Assumes nothing.
use Rattle.std.proofs.Common.{◌≡◌, ℕ, suc, ◌+◌, ◌<◌, Bool, true, false, cond, not, eqb, ltb, List, [], ◌∷◌, ◌++◌, length, get_or, take, drop, Some, None, Option, refl, ap, ◌∙◌, subst, arith}
use Rattle.std.specs.Option.{option_map}
use Rattle.std.specs.List.{AllByRecursion, position_or_len}
use Rattle.std.proofs.lemmas.Bool.Decides.{nat_tests}
use Rattle.std.proofs.lemmas.Bool.{eqb-true, eqb-false, eq-eqb, ne_eqb}
use Rattle.text.specs.Cutting.{split}

-- the byte c stands nowhere in the text
abbrev pub Lacks : ℕ → List ℕ → Type 0
Lacks c bs = AllByRecursion (λ b. b ≡ c → ⊥) bs

pub lacks_from : (c : ℕ) (bs : List ℕ) → ((i : ℕ) → i < length bs → get_or bs i 0 ≡ c → ⊥) → Lacks c bs
lacks_from c [] h = tt
lacks_from c (b ∷ bs) h = (h 0 (omega arith), lacks_from c bs (λ i lt. h (suc i) (omega arith)))

pub lacks_append : (c : ℕ) (xs ys : List ℕ) → Lacks c xs → Lacks c ys → Lacks c (xs ++ ys)
lacks_append c [] ys h k = k
lacks_append c (x ∷ xs) ys h k = (h.0, lacks_append c xs ys h.1 k)

pub split_none : (c : ℕ) (bs : List ℕ) → Lacks c bs → split c bs ≡ None
split_none c [] h = refl
split_none c (b ∷ bs) h = rw (ne_eqb b c h.0, split_none c bs h.1)

-- the first c is behind a text that lacks it
pub split_at : (c : ℕ) (xs ys : List ℕ) → Lacks c xs → split c (xs ++ c ∷ ys) ≡ Some (xs, ys)
split_at c [] ys h = rw (eq-eqb c c refl)
split_at c (x ∷ xs) ys h = rw (ne_eqb x c h.0, split_at c xs ys h.1)

-- x, c and y are the text, and this c is the first
pub record Cut (c : ℕ) (bs x y : List ℕ) : Type 0 where
  pub whole : bs ≡ x ++ c ∷ y
  pub first : Lacks c x

cut_by : (c b : ℕ) (bs : List ℕ) (t : Bool) → eqb b c ≡ t → (o : Option (List ℕ × List ℕ)) → ((v w : List ℕ) → o ≡ Some (v, w) → Cut c bs v w) → (x y : List ℕ) → cond {A = Option (List ℕ × List ℕ)} t (Some ([], bs)) (option_map (λ p. (b ∷ p.0, p.1)) o) ≡ Some (x, y) → Cut c (b ∷ bs) x y
cut_by c b bs true e o more x y h =
    let same : ◌≡◌ {A = List ℕ × List ℕ} ([], bs) (x, y) = cc in
    subst (λ (q : List ℕ × List ℕ). Cut c (b ∷ bs) q.0 q.1) same (record { whole = ap (λ n. n ∷ bs) (eqb-true b c e); first = tt })
cut_by c b bs false e None more x y h = absurd (grind arith)
cut_by c b bs false e (Some p) more x y h =
    let same : ◌≡◌ {A = List ℕ × List ℕ} (b ∷ p.0, p.1) (x, y) = cc in
    let rest = more p.0 p.1 refl in
    subst (λ (q : List ℕ × List ℕ). Cut c (b ∷ bs) q.0 q.1) same (record { whole = ap (λ l. b ∷ l) rest.whole; first = (eqb-false b c e, rest.first) })

-- what `split` gives is a cut
pub split_cuts : (c : ℕ) (bs x y : List ℕ) → split c bs ≡ Some (x, y) → Cut c bs x y
split_cuts c [] x y h = absurd (grind arith)
split_cuts c (b ∷ bs) x y h = cut_by c b bs (eqb b c) refl (split c bs) (λ v w. split_cuts c bs v w) x y h

lacks_by : (c b : ℕ) (bs : List ℕ) (t : Bool) → eqb b c ≡ t → (o : Option (List ℕ × List ℕ)) → (o ≡ None → Lacks c bs) → cond {A = Option (List ℕ × List ℕ)} t (Some ([], bs)) (option_map (λ p. (b ∷ p.0, p.1)) o) ≡ None → Lacks c (b ∷ bs)
lacks_by c b bs true e o more h = absurd (grind arith)
lacks_by c b bs false e None more h = (eqb-false b c e, more refl)
lacks_by c b bs false e (Some p) more h = absurd (grind arith)

-- where it gives none, there is no c
pub split_lacks : (c : ℕ) (bs : List ℕ) → split c bs ≡ None → Lacks c bs
split_lacks c [] h = tt
split_lacks c (b ∷ bs) h = lacks_by c b bs (eqb b c) refl (split c bs) (split_lacks c bs) h

-- the text cut at the byte at i, if there is one
abbrev cut : List ℕ → ℕ → Option (List ℕ × List ℕ)
cut bs i = cond (ltb i (length bs)) (Some (take i bs, drop (i + 1) bs)) None

cut_on : (b : ℕ) (bs : List ℕ) (i : ℕ) → option_map (λ p. (b ∷ p.0, p.1)) (cut bs i) ≡ cut (b ∷ bs) (1 + i)
cut_on b bs i = grind (arith, nat_tests)

split_by : (b : ℕ) (bs : List ℕ) (t : Bool) (i : ℕ) (o : Option (List ℕ × List ℕ)) → o ≡ cut bs i → cond t (Some ([], bs)) (option_map (λ p. (b ∷ p.0, p.1)) o) ≡ cut (b ∷ bs) (cond (not t) (1 + i) 0)
split_by b bs true i o e = grind (arith, nat_tests)
split_by b bs false i o e = ap (option_map (λ p. (b ∷ p.0, p.1))) e ∙ cut_on b bs i

-- `split` cuts where the first c is
pub split_first : (c : ℕ) (bs : List ℕ) → split c bs ≡ cut bs (position_or_len (λ b. eqb b c) bs)
split_first c [] = refl
split_first c (b ∷ bs) = split_by b bs (eqb b c) (position_or_len (λ b. eqb b c) bs) (split c bs) (split_first c bs)
