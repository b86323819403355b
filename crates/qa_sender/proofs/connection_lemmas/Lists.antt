-- What tests, sums and walks make of a list whose elements were replaced one by one, or that is turned.
use Rattle.std.proofs.Common.{◌≡◌, ◌∙◌, ◌+◌, ℕ, suc, List, [], ◌∷◌, ◌++◌, map, Bool, true, false, cond, ◌&&◌, ◌||◌, Option, Some, option_map, refl, sym, ap, subst, arith, filter, find, reverse, sum_by, take}
use Rattle.std.proofs.Math.Bool.{and-true, and_comm, or-false, or_comm}
use Rattle.std.proofs.lemmas.List.{reverse-append, map_push}
use Rattle.std.proofs.lemmas.List.Folds.{list_any-append, list_all-append}
use Rattle.std.proofs.lemmas.List.Sums.{sum_by-cons}
use Rattle.std.specs.List.{AllByRecursion, list_any, list_all, prefix_len}

-- ---- elements replaced one by one

pub map_same : {X Y : Type 0} (f g : X → Y) (xs : List X) → AllByRecursion (λ x. f x ≡ g x) xs → map f xs ≡ map g xs
map_same f g [] all = refl
map_same f g (x ∷ xs) all = ap (λ y. y ∷ map f xs) all.0 ∙ ap (λ ys. g x ∷ ys) (map_same f g xs all.1)

-- two replacements one after the other are one
pub map_fused : {X Y Z : Type 0} (f : Y → Z) (g : X → Y) (k : X → Z) (xs : List X) → AllByRecursion (λ x. f (g x) ≡ k x) xs → map f (map g xs) ≡ map k xs
map_fused f g k [] all = refl
map_fused f g k (x ∷ xs) all = ap (λ z. z ∷ map f (map g xs)) all.0 ∙ ap (λ zs. k x ∷ zs) (map_fused f g k xs all.1)

pub each_of_map : {X Y : Type 0} (P : Y → Type 0) (g : X → Y) (xs : List X) → AllByRecursion (λ x. P (g x)) xs → AllByRecursion P (map g xs)
each_of_map P g [] all = tt
each_of_map P g (x ∷ xs) all = (all.0, each_of_map P g xs all.1)

filter_if : {X Y : Type 0} (g : X → Y) (x : X) (xs : List X) (b : Bool) → cond b (g x ∷ map g xs) (map g xs) ≡ map g (cond b (x ∷ xs) xs)
filter_if g x xs true = refl
filter_if g x xs false = refl

pub filter_of_map : {X Y : Type 0} (test : Y → Bool) (g : X → Y) (passes : X → Bool) (xs : List X) → AllByRecursion (λ x. test (g x) ≡ passes x) xs
    → filter test (map g xs) ≡ map g (filter passes xs)
filter_of_map test g passes [] all = refl
filter_of_map test g passes (x ∷ xs) all =
    ap (λ b. cond b (g x ∷ filter test (map g xs)) (filter test (map g xs))) all.0
    ∙ (ap (λ ys. cond (passes x) (g x ∷ ys) ys) (filter_of_map test g passes xs all.1) ∙ filter_if g x (filter passes xs) (passes x))

pub any_of_map : {X Y : Type 0} (test : Y → Bool) (g : X → Y) (passes : X → Bool) (xs : List X) → AllByRecursion (λ x. test (g x) ≡ passes x) xs
    → list_any test (map g xs) ≡ list_any passes xs
any_of_map test g passes [] all = refl
any_of_map test g passes (x ∷ xs) all =
    ap (λ b. b || list_any test (map g xs)) all.0 ∙ ap (λ b. passes x || b) (any_of_map test g passes xs all.1)

find_if : {X Y : Type 0} (g : X → Y) (x : X) (o : Option X) (b : Bool) → cond b (Some (g x)) (option_map g o) ≡ option_map g (cond b (Some x) o)
find_if g x o true = refl
find_if g x o false = refl

pub find_of_map : {X Y : Type 0} (test : Y → Bool) (g : X → Y) (passes : X → Bool) (xs : List X) → AllByRecursion (λ x. test (g x) ≡ passes x) xs
    → find test (map g xs) ≡ option_map g (find passes xs)
find_of_map test g passes [] all = refl
find_of_map test g passes (x ∷ xs) all =
    ap (λ b. cond b (Some (g x)) (find test (map g xs))) all.0
    ∙ (ap (λ o. cond (passes x) (Some (g x)) o) (find_of_map test g passes xs all.1) ∙ find_if g x (find passes xs) (passes x))

pub sum_of_map : {X Y : Type 0} (weight : Y → ℕ) (g : X → Y) (adds : X → ℕ) (xs : List X) → AllByRecursion (λ x. weight (g x) ≡ adds x) xs
    → sum_by weight (map g xs) ≡ sum_by adds xs
sum_of_map weight g adds [] all = refl
sum_of_map weight g adds (x ∷ xs) all =
    sum_by-cons weight (g x) (map g xs)
    ∙ (ap (λ n. n + sum_by weight (map g xs)) all.0 ∙ (ap (λ n. adds x + n) (sum_of_map weight g adds xs all.1) ∙ sym (sum_by-cons adds x xs)))

-- ---- the front that passes a test, and what stands behind it

passing_if : {X : Type 0} (test : X → Bool) (x : X) (xs : List X) (n : ℕ) (b : Bool) → test x ≡ b → AllByRecursion (λ y. test y ≡ true) (take n xs)
    → AllByRecursion (λ y. test y ≡ true) (take (cond b (1 + n) 0) (x ∷ xs))
passing_if test x xs n true is rest = let one : suc n ≡ 1 + n = omega arith in subst (λ k. AllByRecursion (λ y. test y ≡ true) (take k (x ∷ xs))) one (is, rest)
passing_if test x xs n false is rest = tt

pub front_passes : {X : Type 0} (test : X → Bool) (xs : List X) → AllByRecursion (λ x. test x ≡ true) (take (prefix_len test xs) xs)
front_passes test [] = tt
front_passes test (x ∷ xs) = passing_if test x xs (prefix_len test xs) (test x) refl (front_passes test xs)

-- ---- the list turned

turned_list : {X : Type 0} (x : X) (xs : List X) → reverse (x ∷ xs) ≡ reverse xs ++ x ∷ []
turned_list x xs = reverse-append (x ∷ []) xs

pub map_turned : {X Y : Type 0} (g : X → Y) (xs : List X) → map g (reverse xs) ≡ reverse (map g xs)
map_turned g [] = refl
map_turned g (x ∷ xs) =
    ap (map g) (turned_list x xs) ∙ (map_push g (reverse xs) x ∙ (ap (λ ys. ys ++ g x ∷ []) (map_turned g xs) ∙ sym (turned_list (g x) (map g xs))))

pub any_turned : {X : Type 0} (test : X → Bool) (xs : List X) → list_any test (reverse xs) ≡ list_any test xs
any_turned test [] = refl
any_turned test (x ∷ xs) =
    ap (list_any test) (turned_list x xs)
    ∙ (list_any-append test (reverse xs) (x ∷ []) ∙ (ap (λ b. b || (test x || false)) (any_turned test xs) ∙ (ap (λ b. list_any test xs || b) (or-false (test x)) ∙ or_comm (list_any test xs) (test x))))

pub all_turned : {X : Type 0} (test : X → Bool) (xs : List X) → list_all test (reverse xs) ≡ list_all test xs
all_turned test [] = refl
all_turned test (x ∷ xs) =
    ap (list_all test) (turned_list x xs)
    ∙ (list_all-append test (reverse xs) (x ∷ []) ∙ (ap (λ b. b && (test x && true)) (all_turned test xs) ∙ (ap (λ b. list_all test xs && b) (and-true (test x)) ∙ and_comm (list_all test xs) (test x))))

pub all_same : {X : Type 0} (f g : X → Bool) (xs : List X) → AllByRecursion (λ x. f x ≡ g x) xs → list_all f xs ≡ list_all g xs
all_same f g [] same = refl
all_same f g (x ∷ xs) same = ap (λ b. b && list_all f xs) same.0 ∙ ap (λ b. g x && b) (all_same f g xs same.1)

pub any_same : {X : Type 0} (f g : X → Bool) (xs : List X) → AllByRecursion (λ x. f x ≡ g x) xs → list_any f xs ≡ list_any g xs
any_same f g [] same = refl
any_same f g (x ∷ xs) same = ap (λ b. b || list_any f xs) same.0 ∙ ap (λ b. g x || b) (any_same f g xs same.1)

-- ---- a part of a list

any_if : {X : Type 0} (f g : X → Bool) (x : X) (xs : List X) (b : Bool) → list_any g (cond b (x ∷ xs) xs) ≡ ((b && g x) || list_any g xs)
any_if f g x xs true = refl
any_if f g x xs false = refl

-- some element of a part passes a test exactly where some element passes both
pub any_in_filter : {X : Type 0} (f g : X → Bool) (xs : List X) → list_any g (filter f xs) ≡ list_any (λ x. f x && g x) xs
any_in_filter f g [] = refl
any_in_filter f g (x ∷ xs) = any_if f g x (filter f xs) (f x) ∙ ap (λ b. (f x && g x) || b) (any_in_filter f g xs)

-- what holds of every value holds of each element
pub each_value : {X : Type 0} (P : X → Type 0) → ((x : X) → P x) → (xs : List X) → AllByRecursion P xs
each_value P holds [] = tt
each_value P holds (x ∷ xs) = (holds x, each_value P holds xs)
