-- What holds of each element of a part of a list.
use Rattle.std.proofs.Common.{◌≡◌, ◌∙◌, ℕ, zero, suc, ◌+◌, ◌<◌, List, [], ◌∷◌, ◌++◌, length, get_or, set, map, take, drop, add-one, refl, sym, ap, subst, arith}
use Rattle.std.specs.List.{AllByRecursion}
use Rattle.std.proofs.lemmas.List.{length-append, length-map, take-append-drop}
use Rattle.std.proofs.lemmas.List.Edits.{map_over_more}

-- the element at an index
pub element : {X : Type 0} (xs : List X) (at : ℕ) → at < length xs → (x : X) × (x ≡ get_or xs at x)
element [] at within = absurd (omega arith)
element (x ∷ xs) zero within = (x, refl)
element (x ∷ xs) (suc at) within = element xs at (omega arith)

-- ---- each of the first

each_suc : {X : Type 0} (P : X → Type 0) (xs : List X) (at : ℕ) (x : X) → at < length xs → x ≡ get_or xs at x → P x → AllByRecursion P (take at xs) → AllByRecursion P (take (suc at) xs)
each_suc P [] at x within is here all = absurd (omega arith)
each_suc P (y ∷ xs) zero x within is here all = (subst P is here, tt)
each_suc P (y ∷ xs) (suc at) x within is here all = (all.0, each_suc P xs at x (omega arith) is here all.1)

-- and one more
pub each_more : {X : Type 0} (P : X → Type 0) (xs : List X) (at : ℕ) (x : X) → at < length xs → x ≡ get_or xs at x → P x → AllByRecursion P (take at xs) → AllByRecursion P (take (at + 1) xs)
each_more P xs at x within is here all = subst (λ (n : ℕ). AllByRecursion P (take n xs)) (sym (add-one at)) (each_suc P xs at x within is here all)

each_suc_set : {X : Type 0} (P : X → Type 0) (xs : List X) (at : ℕ) (y : X) → at < length xs → P y → AllByRecursion P (take at xs) → AllByRecursion P (take (suc at) (set xs at y))
each_suc_set P [] at y within here all = absurd (omega arith)
each_suc_set P (x ∷ xs) zero y within here all = (here, tt)
each_suc_set P (x ∷ xs) (suc at) y within here all = (all.0, each_suc_set P xs at y (omega arith) here all.1)

-- and one that was written
pub each_more_set : {X : Type 0} (P : X → Type 0) (xs : List X) (at : ℕ) (y : X) → at < length xs → P y → AllByRecursion P (take at xs) → AllByRecursion P (take (at + 1) (set xs at y))
each_more_set P xs at y within here all = subst (λ (n : ℕ). AllByRecursion P (take n (set xs at y))) (sym (add-one at)) (each_suc_set P xs at y within here all)

pub each_take : {X : Type 0} (P : X → Type 0) (xs : List X) (n : ℕ) → AllByRecursion P xs → AllByRecursion P (take n xs)
each_take P xs zero all = tt
each_take P [] (suc n) all = tt
each_take P (x ∷ xs) (suc n) all = (all.0, each_take P xs n all.1)

-- ---- each of the rest

pub each_drop : {X : Type 0} (P : X → Type 0) (xs : List X) (n : ℕ) → AllByRecursion P xs → AllByRecursion P (drop n xs)
each_drop P xs zero all = all
each_drop P [] (suc n) all = tt
each_drop P (x ∷ xs) (suc n) all = each_drop P xs n all.1

-- ---- each of all

pub each_map : {X : Type 0} (P Q : X → Type 0) (f : X → X) → ((x : X) → P x → Q (f x)) → (xs : List X) → AllByRecursion P xs → AllByRecursion Q (map f xs)
each_map P Q f goes [] all = tt
each_map P Q f goes (x ∷ xs) all = (goes x all.0, each_map P Q f goes xs all.1)

pub each_weaker : {X : Type 0} (P Q : X → Type 0) → ((x : X) → P x → Q x) → (xs : List X) → AllByRecursion P xs → AllByRecursion Q xs
each_weaker P Q goes [] all = tt
each_weaker P Q goes (x ∷ xs) all = (goes x all.0, each_weaker P Q goes xs all.1)

-- a change that leaves each element leaves the list
pub map_same : {X : Type 0} (f : X → X) (xs : List X) → AllByRecursion (λ x. f x ≡ x) xs → map f xs ≡ xs
map_same f [] all = refl
map_same f (x ∷ xs) all = ap (λ y. y ∷ map f xs) all.0 ∙ ap (λ ys. x ∷ ys) (map_same f xs all.1)

-- ---- a list of which each of the first was changed

pub mapped_length : {X : Type 0} (f : X → X) (xs ys : List X) (at : ℕ) → ys ≡ map f (take at xs) ++ drop at xs → length ys ≡ length xs
mapped_length f xs ys at is =
    let whole : length ys ≡ length (map f (take at xs) ++ drop at xs) = ap length is in
    let after = length-append (map f (take at xs)) (drop at xs) in
    let same = length-map (take at xs) f in
    let before = length-append (take at xs) (drop at xs) in
    let all : length (take at xs ++ drop at xs) ≡ length xs = ap length (take-append-drop at xs) in
    omega (arith, whole, after, same, before, all)

-- and one more
pub mapped_more : {X : Type 0} (f : X → X) (xs ys zs : List X) (at : ℕ) → at < length xs → ys ≡ map f (take at xs) ++ drop at xs
    → ((x : X) → x ≡ get_or ys at x → zs ≡ set ys at (f x)) → zs ≡ map f (take (at + 1) xs) ++ drop (at + 1) xs
mapped_more f xs ys zs at within is written =
    let long = mapped_length f xs ys at is in
    let x = element ys at (omega (arith, within, long)) in
    written x.0 x.1 ∙ map_over_more f xs ys at x.0 within is x.1
