-- The slots of a set, written one after another. Assumes nothing.
use Rattle.std.proofs.Common.{◌≡◌, ℕ, zero, suc, ◌+◌, ◌-◌, ◌<◌, ◌≤◌, Bool, true, false, cond, List, [], ◌∷◌, ◌++◌, length, decimal, refl, sym, ap, ◌∙◌, add-one, arith}
use Rattle.std.proofs.lemmas.Fmt.{decimal_nonempty}
use Rattle.std.proofs.lemmas.Bool.Decides.{nat_tests}
use Rattle.slots.specs.Sets.{none, removed, Lowest}
use Rattle.answer.specs.Slots.{some, entry_text, listed, or_hyphen, slots_text}

some_long : (bs : List ℕ) → 0 < length bs → some bs ≡ true
some_long [] h = absurd (omega arith)
some_long (b ∷ bs) h = refl

some_before : (bs cs : List ℕ) → some bs ≡ true → some (bs ++ cs) ≡ true
some_before [] cs e = absurd (let z : ◌≡◌ {A = ℕ} 0 1 = cc in omega arith)
some_before (b ∷ bs) cs e = refl

no_hyphen : (bs : List ℕ) → some bs ≡ true → or_hyphen bs ≡ bs
no_hyphen [] e = absurd (let z : ◌≡◌ {A = ℕ} 0 1 = cc in omega arith)
no_hyphen (b ∷ bs) e = refl

-- one number more, which is in the set
listed_in : (n : ℕ) (set : ℕ → Bool) → set n ≡ true → listed (n + 1) set ≡ listed n set ++ entry_text (some (listed n set)) n
unfolding listed
listed_in n set e = rw add-one (ap (λ b. cond b (listed n set ++ entry_text (some (listed n set)) n) (listed n set)) e)

-- numbers from n on that are not in it
listed_past : (k n : ℕ) (set : ℕ → Bool) → ((y : ℕ) → n ≤ y → y < k + n → set y ≡ false) → listed (k + n) set ≡ listed n set
unfolding listed
listed_past zero n set h =
    let z : 0 + n ≡ n = omega arith in
    ap (λ j. listed j set) z
listed_past (suc k) n set h =
    let z : suc k + n ≡ suc (k + n) = omega arith in
    ap (λ j. listed j set) z
    ∙ ap (λ b. cond b (listed (k + n) set ++ entry_text (some (listed (k + n) set)) (k + n)) (listed (k + n) set)) (h (k + n) (omega arith) (omega arith))
    ∙ listed_past k n set (λ y l m. h y l (omega (arith, m)))

listed_same : (n m : ℕ) (set : ℕ → Bool) → n ≤ m → ((y : ℕ) → n ≤ y → y < m → set y ≡ false) → listed m set ≡ listed n set
listed_same n m set l h =
    let k : (m - n) + n ≡ m = omega (arith, l) in
    ap (λ j. listed j set) (sym k) ∙ listed_past (m - n) n set (λ y p q. h y p (omega (arith, q, l)))

-- the text of the numbers of a set below some n, where there are any; the others are still to come
pub record Listed (text : List ℕ) (set rest : ℕ → Bool) : Type 0 where
  pub to : ℕ
  pub inside : to ≤ 64
  pub is : text ≡ listed to set
  pub any : some text ≡ true
  pub below : (y : ℕ) → y < to → rest y ≡ false
  pub above : (y : ℕ) → to ≤ y → rest y ≡ set y

below_next : (rest : ℕ → Bool) (x : ℕ) → Lowest rest x → (y : ℕ) → y < x + 1 → removed rest x y ≡ false
below_next rest x low y l = grind (arith, nat_tests, l, low.first y, low.inside)

above_next : (rest : ℕ → Bool) (x y : ℕ) → x + 1 ≤ y → removed rest x y ≡ rest y
above_next rest x y l = grind (arith, nat_tests, l)

-- the lowest slot is written first
pub listed_first : (set before after : ℕ → Bool) (x : ℕ) → before ≡ set → Lowest before x → after ≡ removed before x → Listed (decimal x) set after
unfolding listed
listed_first set before after x e low gone =
    let member = ap (λ f. f x) (sym e) ∙ low.member in
    let none = listed_same 0 x set (omega arith) (λ y p q. ap (λ f. f y) (sym e) ∙ low.first y q) in
    record {
      to = x + 1;
      inside = omega (arith, low.inside);
      is = sym (listed_in x set member ∙ ap (λ bs. bs ++ entry_text (some bs) x) none);
      any = some_long (decimal x) (decimal_nonempty x (omega (arith, low.inside)));
      below = λ y l. ap (λ f. f y) gone ∙ below_next before x low y l;
      above = λ y l. ap (λ f. f y) gone ∙ above_next before x y l ∙ ap (λ f. f y) e;
    }

-- each other slot behind a comma
pub listed_more : (text : List ℕ) (set before after : ℕ → Bool) (x : ℕ) → Listed text set before → Lowest before x → after ≡ removed before x → Listed (text ++ 44 ∷ decimal x) set after
listed_more text set before after x l low gone =
    let reached : l.to ≤ x = grind (arith, l.below x, low.member) in
    let member = sym (l.above x reached) ∙ low.member in
    let same = listed_same l.to x set reached (λ y p q. sym (l.above y p) ∙ low.first y q) in
    record {
      to = x + 1;
      inside = omega (arith, low.inside);
      is = ap (λ b. text ++ entry_text b x) (sym l.any) ∙ ap (λ bs. bs ++ entry_text (some bs) x) (l.is ∙ sym same) ∙ sym (listed_in x set member);
      any = some_before text _ l.any;
      below = λ y p. ap (λ f. f y) gone ∙ below_next before x low y p;
      above = λ y p. ap (λ f. f y) gone ∙ above_next before x y p ∙ l.above y (omega (arith, p, reached));
    }

-- at the end it is the text of the set
pub listed_all : (text : List ℕ) (set rest : ℕ → Bool) → Listed text set rest → rest ≡ none → text ≡ slots_text set
listed_all text set rest l e =
    let after = listed_same l.to 64 set l.inside (λ y p q. sym (l.above y p) ∙ ap (λ f. f y) e) in
    sym (no_hyphen text l.any) ∙ ap or_hyphen (l.is ∙ sym after)

-- and a hyphen where no number is in the set
pub hyphen_none : (set : ℕ → Bool) → set ≡ none → slots_text set ≡ 45 ∷ []
unfolding listed
hyphen_none set e = ap or_hyphen (listed_same 0 64 set (omega arith) (λ y p q. ap (λ f. f y) e))
