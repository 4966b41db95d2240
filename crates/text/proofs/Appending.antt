-- One text written behind another. Assumes nothing.
use Rattle.std.proofs.Common.{◌≡◌, ℕ, cond, List, ◌++◌, is_ok, Ok, Err, Result, ap, ◌∙◌, append_assoc}
use Rattle.std.specs.declared.alloc.AllocError.{AllocError}
use Rattle.text.specs.Appending.{Appends}

-- a text is written, and then another behind it
pub appends_more : (before text between more after : List ℕ) (r : Result (Unit {0}) AllocError) → between ≡ before ++ text → Appends between more r after → Appends before (text ++ more) r after
appends_more before text between more after (Ok x) e h = h ∙ ap (λ bs. bs ++ more) e ∙ append_assoc before text more
appends_more before text between more after (Err x) e h = (text ++ h.0, h.1 ∙ ap (λ bs. bs ++ h.0) e ∙ append_assoc before text h.0)

-- the last text, which is written whole or not at all
pub appends_last : (before text between more after some : List ℕ) (r : Result (Unit {0}) AllocError) → after ≡ cond (is_ok r) (between ++ more) between → between ++ more ≡ before ++ text → between ≡ before ++ some → Appends before text r after
appends_last before text between more after some (Ok x) e all part = e ∙ all
appends_last before text between more after some (Err x) e all part = (some, e ∙ part)
