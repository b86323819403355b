-- Tokens that are written one behind another.
use Rattle.std.proofs.Common.{◌≡◌, ◌∙◌, List, ◌++◌, ap, append_assoc, Result, Ok, Err, OnOk}

-- two parts were written
pub join : {A : Type 0} (s0 s1 s2 a b : List A) → s1 ≡ s0 ++ a → s2 ≡ s1 ++ b → s2 ≡ s0 ++ (a ++ b)
join s0 s1 s2 a b first second = second ∙ (ap (λ s. s ++ b) first ∙ append_assoc s0 a b)

-- the last of them, which may fail
pub last : {A T E : Type 0} (r : Result T E) (s0 s1 s2 a b : List A) → s1 ≡ s0 ++ a → OnOk r (s2 ≡ s1 ++ b) → OnOk r (s2 ≡ s0 ++ (a ++ b))
last (Ok x) s0 s1 s2 a b first second = join s0 s1 s2 a b first second
last (Err e) s0 s1 s2 a b first second = tt
