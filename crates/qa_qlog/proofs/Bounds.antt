-- What the buffer of a cutter has after one more byte.
use Rattle.std.proofs.Common.{◌≡◌, ◌∙◌, ◌∷◌, ◌++◌, ◌+◌, ℕ, zero, suc, List, [], take, drop, refl, sym, ap, arith}
use Rattle.std.proofs.lemmas.List.{drop-drop}

-- without what was read of a record, and one more byte
pub drop_passed : (items : List ℕ) (start used : ℕ) → drop (start + (used + 1)) items ≡ drop 1 (drop used (drop start items))
drop_passed items start used = sym (drop-drop 1 used (drop start items) ∙ drop-drop (used + 1) start items)

-- with one more byte of a record
take_suc : (used : ℕ) (rest : List ℕ) (b : ℕ) (more : List ℕ) → drop used rest ≡ b ∷ more → take (suc used) rest ≡ take used rest ++ b ∷ []
take_suc zero [] b more is = cc
take_suc zero (x ∷ xs) b more is = let same : x ≡ b = cc in ap (λ y. y ∷ []) same
take_suc (suc n) [] b more is = cc
take_suc (suc n) (x ∷ xs) b more is = ap (λ ys. x ∷ ys) (take_suc n xs b more is)

pub take_next : (used n : ℕ) (rest : List ℕ) (b : ℕ) (more : List ℕ) → n ≡ suc used → drop used rest ≡ b ∷ more → take n rest ≡ take used rest ++ b ∷ []
take_next used n rest b more one is = ap (λ k. take k rest) one ∙ take_suc used rest b more is

pub drop_next : (used n : ℕ) (rest : List ℕ) → n ≡ used + 1 → drop n rest ≡ drop 1 (drop used rest)
drop_next used n rest one = ap (λ k. drop k rest) one ∙ sym (drop-drop 1 used rest)

-- with n more bytes of a record
take_none : (n : ℕ) → take {A = ℕ} n [] ≡ []
take_none zero = refl
take_none (suc n) = refl

pub take_further : (used n : ℕ) (rest : List ℕ) → take (used + n) rest ≡ take used rest ++ take n (drop used rest)
take_further zero n rest = ap (λ k. take k rest) (let same : 0 + n ≡ n = omega arith in same)
take_further (suc u) n [] = take_none (suc u + n) ∙ sym (take_none n)
take_further (suc u) n (x ∷ xs) = let same : suc u + n ≡ suc (u + n) = omega arith in ap (λ k. take k (x ∷ xs)) same ∙ ap (λ ys. x ∷ ys) (take_further u n xs)

pub drop_further : (used n : ℕ) (rest : List ℕ) → drop (used + n) rest ≡ drop n (drop used rest)
drop_further used n rest = sym (drop-drop n used rest)
