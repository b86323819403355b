-- The first of each, of one more.
use Rattle.std.proofs.Common.{◌≡◌, ◌∙◌, ◌<◌, ◌≤◌, ℕ, zero, suc, Bool, true, false, List, [], ◌∷◌, ◌++◌, append_assoc, ap, arith, length, refl, sym, take}
use Rattle.std.proofs.lemmas.List.{append-nil, length-append, length-take, take-append-le, take_all}
use Rattle.std.proofs.lemmas.List.Elements.{filter-append}
use Rattle.std.specs.Prelude.{◌||◌, not, if◌then◌else◌}
use Rattle.std.specs.List.{filter, list_any}
use Rattle.qa_why_command.specs.warnings.Warnings.{firsts}

-- whoever is the same as one is the same as all that it is the same as
abbrev pub IsPassedOn : {X : Type 0} → (X → X → Bool) → Type 0
IsPassedOn {X} same = (a b c : X) → same a b ≡ true → same b c ≡ true → same a c ≡ true

-- one of these is the same as this
abbrev pub is_in : {X : Type 0} → (X → X → Bool) → List X → X → Bool
is_in same xs g = list_any (λ x. same x g) xs

-- this, unless it is one of these
abbrev pub unless_in : {X : Type 0} → (X → X → Bool) → List X → X → List X
unless_in same xs g = if is_in same xs g then [] else g ∷ []

module _ {X : Type 0} (same : X → X → Bool) (passes : IsPassedOn same) where
  any_kept_at : (f g x : X) (xs : List X) (b c : Bool) → same f x ≡ b → same x g ≡ c → same f g ≡ false
      → is_in same (filter (λ y. not (same f y)) xs) g ≡ is_in same xs g → is_in same (filter (λ y. not (same f y)) (x ∷ xs)) g ≡ is_in same (x ∷ xs) g
  any_kept_at f g x xs false c fx xg apart rest = rw (fx, rest) refl
  any_kept_at f g x xs true false fx xg apart rest = rw (fx, xg) rest
  any_kept_at f g x xs true true fx xg apart rest = let both : same f g ≡ true = passes f x g fx xg in cc

  -- who is not the same as f is the same as the others that are not
  any_kept : (f g : X) (xs : List X) → same f g ≡ false → is_in same (filter (λ y. not (same f y)) xs) g ≡ is_in same xs g
  any_kept f g [] apart = refl
  any_kept f g (x ∷ xs) apart = any_kept_at f g x xs (same f x) (same x g) refl refl apart (any_kept f g xs apart)

  unless_kept : (f g : X) (xs : List X) (b c : Bool) → same f g ≡ b → is_in same xs g ≡ c
      → filter (λ y. not (same f y)) (unless_in same xs g) ≡ unless_in same (f ∷ filter (λ y. not (same f y)) xs) g
  unless_kept f g xs true true fg any = rw (fg, any) refl
  unless_kept f g xs true false fg any = rw (any, fg) refl
  unless_kept f g xs false true fg any = rw (fg, any_kept f g xs fg, any) refl
  unless_kept f g xs false false fg any = rw (fg, any_kept f g xs fg, any, fg) refl

  pub firsts-snoc : (xs : List X) (g : X) → firsts same (xs ++ g ∷ []) ≡ firsts same xs ++ unless_in same (firsts same xs) g
  firsts-snoc [] g = refl
  firsts-snoc (f ∷ xs) g =
      ap (λ ys. f ∷ filter (λ y. not (same f y)) ys) (firsts-snoc xs g)
      ∙ (ap (λ ys. f ∷ ys) (filter-append (λ y. not (same f y)) (firsts same xs) (unless_in same (firsts same xs) g))
      ∙ ap (λ ys. f ∷ (filter (λ y. not (same f y)) (firsts same xs) ++ ys)) (unless_kept f g (firsts same xs) (same f g) (is_in same (firsts same xs) g) refl refl))

  -- more of them add some
  pub firsts_more : (xs ys : List X) → (zs : List X) × (firsts same (xs ++ ys) ≡ firsts same xs ++ zs)
  firsts_more xs [] = ([], ap (firsts same) (append-nil xs) ∙ sym (append-nil (firsts same xs)))
  firsts_more xs (y ∷ ys) =
      let rest = firsts_more (xs ++ y ∷ []) ys in (
        unless_in same (firsts same xs) y ++ rest.0,
        ap (firsts same) (sym (append_assoc xs (y ∷ []) ys)) ∙ (rest.1 ∙ (ap (λ zs. zs ++ rest.0) (firsts-snoc xs y) ∙ append_assoc (firsts same xs) (unless_in same (firsts same xs) y) rest.0)),
      )

  -- ---- the first n of them

  long_enough : (n : ℕ) (xs : List X) → n ≤ length (take n xs) → n ≤ length xs
  long_enough n xs full = omega (arith, full, length-take n xs)

  -- where they are n already
  pub first_full : (n : ℕ) (xs ys : List X) → n ≤ length (take n (firsts same xs)) → take n (firsts same (xs ++ ys)) ≡ take n (firsts same xs)
  first_full n xs ys full =
      let more = firsts_more xs ys in
      ap (take n) more.1 ∙ take-append-le n (firsts same xs) more.0 (long_enough n (firsts same xs) full)

  any_taken : (n : ℕ) (xs : List X) (g : X) → is_in same (take n xs) g ≡ true → is_in same xs g ≡ true
  any_taken zero xs g is = let none : false ≡ true = is in cc
  any_taken (suc n) [] g is = is
  any_taken (suc n) (x ∷ xs) g is = elim (same x g) as (λ b. (b || is_in same (take n xs) g) ≡ true → (b || is_in same xs g) ≡ true) [ true ↦ λ _. refl | false ↦ any_taken n xs g ] is

  -- where one of them is the same
  pub first_again : (n : ℕ) (xs : List X) (g : X) → is_in same (take n (firsts same xs)) g ≡ true → take n (firsts same (xs ++ g ∷ [])) ≡ take n (firsts same xs)
  first_again n xs g again =
      let is = any_taken n (firsts same xs) g again in
      ap (take n) (firsts-snoc xs g ∙ (rw is (append-nil (firsts same xs))))

  short_enough : (n : ℕ) (xs : List X) → length (take n xs) < n → length xs < n
  short_enough n xs short = omega (arith, short, length-take n xs)

  -- where they are fewer, and none is the same
  pub first_more : (n : ℕ) (xs : List X) (g : X) → length (take n (firsts same xs)) < n → is_in same (take n (firsts same xs)) g ≡ false
      → take n (firsts same (xs ++ g ∷ [])) ≡ take n (firsts same xs) ++ g ∷ []
  first_more n xs g few none =
      let short = short_enough n (firsts same xs) few in
      let all : take n (firsts same xs) ≡ firsts same xs = take_all n (firsts same xs) (omega (arith, short)) in
      let apart : is_in same (firsts same xs) g ≡ false = ap (λ ys. is_in same ys g) (sym all) ∙ none in
      let whole : firsts same (xs ++ g ∷ []) ≡ firsts same xs ++ g ∷ [] = firsts-snoc xs g ∙ rw apart refl in
      ap (take n) whole
      ∙ (take_all n (firsts same xs ++ g ∷ []) (omega (arith, short, length-append (firsts same xs) (g ∷ [])))
      ∙ ap (λ ys. ys ++ g ∷ []) (sym all))
