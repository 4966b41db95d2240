-- The law of reordering: operations that do not meet may change places, hence changes that do not clash, hence all that stands in between. Assumes nothing.
use Rattle.std.proofs.Common.{◌≡◌, ℕ, ◌<◌, Bool, true, ◌&&◌, ◌||◌, eqb, List, [], ◌∷◌, ◌++◌, length, set, is_some, Some, sym, refl, ap, ◌∙◌, subst, arith, length-set}
use Rattle.std.specs.List.{slice_get, flat_map, AllByRecursion}
use Rattle.std.proofs.lemmas.List.{set_comm}
use Rattle.std.proofs.lemmas.Bool.{eq-eqb, or_left, or_right, and_from, cond-true}
use Rattle.law.specs.Operations.{Operation, reading, writing, Serial, then_reading, then_writing, latest, wrote, has_read, touched}
use Rattle.law.specs.Changes.{Change, Clash, Explains}
use Rattle.law.specs.Orders.{Insertion, here, behind, Reordering, empty, put_in, Fits, ReorderingLaw}
use Rattle.law.proofs.Lists.{slice_get-set_other}

module _ {R : Type 0} where
  -- two operations do not meet: both are readings, or their slots differ
  abbrev pub Apart : Operation R → Operation R → Type 0
  Apart (reading x r) (reading y s) = Unit {0}
  Apart (reading x r) (writing y s) = x ≡ y → ⊥
  Apart (writing x r) (reading y s) = y ≡ x → ⊥
  Apart (writing x r) (writing y s) = x ≡ y → ⊥

module _ {R E : Type 0} (intact : R → E) (first : List E) where
  -- the latest operation may be had in another run that ends where its own does
  pub under : (o : Operation R) (os bs : List (Operation R)) (last : List E)
      → ((mid : List E) → Serial intact first os mid → Serial intact first bs mid) → Serial intact first (o ∷ os) last
      → Serial intact first (o ∷ bs) last
  under (reading x r) os bs last f (then_reading _ _ s e) = then_reading x r (f _ s) e
  under (writing x r) os bs last f (then_writing _ _ s lt e) = then_writing x r (f _ s) lt e

  swap : (p q : Operation R) (ops : List (Operation R)) (last : List E) → Apart p q → Serial intact first (p ∷ q ∷ ops) last
      → Serial intact first (q ∷ p ∷ ops) last
  swap (reading x r) (reading y s) ops last ap (then_reading _ _ (then_reading _ _ run e) d) = then_reading y s (then_reading x r run d) e
  swap (reading x r) (writing y s) ops last ne (then_reading _ _ (then_writing {before = mid} _ _ run lt e) d) =
      then_writing y s (then_reading x r run (sym (slice_get-set_other mid x y (intact s) ne) ∙ ap (λ l. slice_get l x) (sym e) ∙ d)) lt e
  swap (writing x r) (reading y s) ops last ne (then_writing {before = mid} _ _ (then_reading _ _ run d) lt e) =
      then_reading y s (then_writing x r run lt e) (ap (λ l. slice_get l y) e ∙ slice_get-set_other mid y x (intact r) ne ∙ d)
  swap (writing x r) (writing y s) ops last ne (then_writing _ _ (then_writing {before = mid} _ _ run below d) lt e) =
      then_writing y s (then_writing x r run (subst (λ n. x < n) (ap length d ∙ length-set mid y (intact s)) lt) refl)
      (subst (λ n. y < n) (sym (length-set mid x (intact r))) below)
      (e ∙ ap (λ l. set l x (intact r)) d ∙ set_comm mid y x (intact s) (intact r) (λ q. ne (sym q)))

  past : (p : Operation R) (bs ops : List (Operation R)) (last : List E) → AllByRecursion (Apart p) bs → Serial intact first (p ∷ (bs ++ ops)) last
      → Serial intact first (bs ++ p ∷ ops) last
  past p [] ops last aparts run = run
  past p (b ∷ bs) ops last aparts run =
      under b (p ∷ (bs ++ ops)) (bs ++ p ∷ ops) last (λ mid s. past p bs ops mid aparts.1 s) (swap p b (bs ++ ops) last aparts.0 run)

  -- operations that meet none of others may go behind them
  pub all_past : (os bs ops : List (Operation R)) (last : List E) → AllByRecursion (λ p. AllByRecursion (Apart p) bs) os → Serial intact first (os ++ (bs ++ ops)) last
      → Serial intact first (bs ++ (os ++ ops)) last
  all_past [] bs ops last aparts run = run
  all_past (p ∷ os) bs ops last aparts run =
      past p bs (os ++ ops) last aparts.0
      (under p (os ++ (bs ++ ops)) (bs ++ (os ++ ops)) last (λ mid s. all_past os bs ops mid aparts.1 s) run)

  -- and the same under any operations that come later
  pub all_under : (ts os bs : List (Operation R)) (last : List E) → ((mid : List E) → Serial intact first os mid → Serial intact first bs mid)
      → Serial intact first (ts ++ os) last → Serial intact first (ts ++ bs) last
  all_under [] os bs last f run = f last run
  all_under (t ∷ ts) os bs last f run = under t (ts ++ os) (ts ++ bs) last (λ mid s. all_under ts os bs mid f s) run

module _ {R : Type 0} where
  pub wrote_here : (x y : ℕ) (r : R) (ops : List (Operation R)) → x ≡ y → wrote (writing y r ∷ ops) x ≡ true
  wrote_here x y r ops q = ap is_some (cond-true (eqb x y) (Some r) (latest ops x) (eq-eqb x y q))

  pub wrote_more : (o : Operation R) (ops : List (Operation R)) (x : ℕ) → wrote ops x ≡ true → wrote (o ∷ ops) x ≡ true
  wrote_more (reading y r) ops x w = w
  wrote_more (writing y r) ops x w = grind arith

  pub touched_here : (x y : ℕ) (r : R) (ops : List (Operation R)) → x ≡ y → touched (reading y r ∷ ops) x ≡ true
  touched_here x y r ops q = or_left _ _ (or_left _ _ (eq-eqb x y q))

  pub touched_more : (o : Operation R) (ops : List (Operation R)) (x : ℕ) → touched ops x ≡ true → touched (o ∷ ops) x ≡ true
  touched_more (reading y r) ops x t = grind arith
  touched_more (writing y r) ops x t = grind (arith, wrote_more (writing y r) ops x)

  apart_reading : (x : ℕ) (r : R) (bs : List (Operation R)) → (wrote bs x ≡ true → ⊥) → AllByRecursion (Apart (reading x r)) bs
  apart_reading x r [] no_write = tt
  apart_reading x r (reading y s ∷ bs) no_write = (tt, apart_reading x r bs no_write)
  apart_reading x r (writing y s ∷ bs) no_write =
      (λ q. no_write (wrote_here x y s bs q), apart_reading x r bs (λ w. no_write (wrote_more (writing y s) bs x w)))

  apart_writing : (x : ℕ) (r : R) (bs : List (Operation R)) → (touched bs x ≡ true → ⊥) → AllByRecursion (Apart (writing x r)) bs
  apart_writing x r [] untouched = tt
  apart_writing x r (reading y s ∷ bs) untouched =
      (λ q. untouched (touched_here x y s bs (sym q)), apart_writing x r bs (λ t. untouched (touched_more (reading y s) bs x t)))
  apart_writing x r (writing y s ∷ bs) untouched =
      (λ q. untouched (or_right (has_read bs x) _ (wrote_here x y s bs q)), apart_writing x r bs (λ t. untouched (touched_more (writing y s) bs x t)))

  -- operations none of which writes what the others touch
  all_apart : (os bs : List (Operation R)) → ((x : ℕ) → wrote os x ≡ true → touched bs x ≡ true → ⊥)
      → ((x : ℕ) → touched os x ≡ true → wrote bs x ≡ true → ⊥) → AllByRecursion (λ p. AllByRecursion (Apart p) bs) os
  all_apart [] bs h k = tt
  all_apart (reading x r ∷ os) bs h k =
      (apart_reading x r bs (k x (touched_here x x r os refl)), all_apart os bs h (λ y t. k y (touched_more (reading x r) os y t)))
  all_apart (writing x r ∷ os) bs h k = (
    apart_writing x r bs (h x (wrote_here x x r os refl)),
    all_apart os bs (λ y w. h y (wrote_more (writing x r) os y w))
        (λ y t. k y (touched_more (writing x r) os y t)),
  )

  -- clashing goes both ways
  pub clash_flip : (a b : Change R) → Clash a b → Clash b a
  clash_flip a b (x, e) = (x, flip (wrote a.ops x) (touched a.ops x) (wrote b.ops x) (touched b.ops x) e)
    where
      flip : (w t v u : Bool) → ((w && u) || (t && v)) ≡ true → ((v && t) || (u && w)) ≡ true
      flip w t v u e = grind arith

-- a change, put in, stands before those in front of it
module _ {R : Type 0} (before : Change R → Change R → Bool) {a : Change R} where
  stands : {rest whole : List (Change R)} (b : Change R) → Insertion a rest whole → AllByRecursion (λ c. Clash c b → before c b ≡ true) whole → Clash a b
      → before a b ≡ true
  stands b here alls c = alls.0 c
  stands b (behind i) alls c = stands b i alls.1 c

-- what holds of all but one, and of that one
module _ {R : Type 0} (P : Change R → Type 0) where
  all_rest : {a : Change R} {rest whole : List (Change R)} → Insertion a rest whole → AllByRecursion P whole → AllByRecursion P rest
  all_rest here alls = alls.1
  all_rest (behind i) alls = (alls.0, all_rest i alls.1)

  pub all_whole : {a : Change R} {rest whole : List (Change R)} → Insertion a rest whole → P a → AllByRecursion P rest → AllByRecursion P whole
  all_whole here p alls = (p, alls)
  all_whole (behind i) p alls = (alls.0, all_whole i p alls.1)

  -- what holds of all holds of them in another order
  pub all_reordered : {xs ys : List (Change R)} → Reordering xs ys → AllByRecursion P xs → AllByRecursion P ys
  all_reordered empty alls = tt
  all_reordered (put_in o i) alls = all_whole i alls.0 (all_reordered o alls.1)

fits_rest : {R : Type 0} (before : Change R → Change R → Bool) {a : Change R} {rest whole : List (Change R)} → Insertion a rest whole
    → Fits before whole → Fits before rest
fits_rest before here fits = fits.1
fits_rest before (behind {b = b} i) fits = (all_rest (λ c. Clash c b → before c b ≡ true) i fits.0, fits_rest before i fits.1)

module _ {R E : Type 0} (intact : R → E) (first : List E) where
  -- two neighbours that do not clash may change places
  pub neighbours : (a b : Change R) (cs : List (Change R)) (last : List E) → (Clash a b → ⊥) → Explains intact first (a ∷ b ∷ cs) last
      → Explains intact first (b ∷ a ∷ cs) last
  neighbours a b cs last clear run =
      all_past intact first a.ops b.ops (flat_map (λ (c : Change R). c.ops) cs) last
      (all_apart a.ops b.ops
      (λ x w t. clear (x, or_left (wrote a.ops x && touched b.ops x) _ (and_from _ _ w t)))
      (λ x t w. clear (x, or_right (wrote a.ops x && touched b.ops x) _ (and_from _ _ t w))))
      run

  -- a change may go behind those that it does not clash with
  inserted : (before : Change R → Change R → Bool) → ((a b : Change R) → before a b ≡ true → before b a ≡ true → ⊥)
      → {a : Change R} {rest whole : List (Change R)} → Insertion a rest whole → AllByRecursion (λ b. Clash b a → before b a ≡ true) rest → Fits before whole
      → (last : List E) → Explains intact first (a ∷ rest) last → Explains intact first whole last
  inserted before never here alls fits last run = run
  inserted before never {a} (behind {b = b} {rest = rest} {whole = whole} i) alls fits last run =
      all_under intact first b.ops (flat_map (λ (c : Change R). c.ops) (a ∷ rest)) (flat_map (λ (c : Change R). c.ops) whole) last
      (λ mid s. inserted before never i alls.1 fits.1 mid s)
      (neighbours a b rest last (λ c. never a b (stands before b i fits.0 c) (alls.0 (clash_flip a b c))) run)

  reordered : (before : Change R → Change R → Bool) → ((a b : Change R) → before a b ≡ true → before b a ≡ true → ⊥)
      → {xs ys : List (Change R)} → Reordering xs ys → Fits before xs → Fits before ys
      → (last : List E) → Explains intact first xs last → Explains intact first ys last
  reordered before never empty fx fy last run = run
  reordered before never (put_in {a = a} {xs = xs} {ys = ys} o i) fx fz last run =
      inserted before never i (all_reordered (λ b. Clash b a → before b a ≡ true) o fx.0) fz last
      (all_under intact first a.ops (flat_map (λ (c : Change R). c.ops) xs) (flat_map (λ (c : Change R). c.ops) ys) last
      (λ mid s. reordered before never o fx.1 (fits_rest before i fz) mid s) run)

pub reordering_law : {R E : Type 0} (intact : R → E) → ReorderingLaw intact
reordering_law intact before never first last xs ys o fx fy run = reordered intact first before never o fx fy last run
