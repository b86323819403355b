-- Steps, one after another.
use Rattle.std.proofs.Common.{List, [], ◌∷◌, ◌++◌, refl, sym}
use Rattle.qa_logs.specs.Cutting.{Steps}

-- one more at the end
pub one_more : {A S : Type 0} (step : S → A → S → Type 0) (old : S) (xs : List A) (mid : S) (x : A) (new : S) → Steps step old xs mid → step mid x new → Steps step old (xs ++ x ∷ []) new
one_more step old [] mid x new same next = (new, rw (sym same) next, refl)
one_more step old (y ∷ ys) mid x new steps next = (steps.0, steps.1, one_more step steps.0 ys mid x new steps.2 next)
