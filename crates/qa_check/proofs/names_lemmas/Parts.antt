-- A text that is made of the parts of a list.
use Rattle.std.proofs.Common.{◌≡◌, ◌∙◌, ◌+◌, ◌<◌, ◌++◌, ◌∷◌, ℕ, List, [], length, take, get_or, sym, ap, append-nil, append_assoc}
use Rattle.std.specs.Prelude.{flat_map}
use Rattle.std.proofs.lemmas.Grind.{flat_map-append}
use Rattle.std.proofs.lemmas.List.{take_more}

-- one part more behind a text
pub part_more : {X : Type 0} (f : X → List ℕ) (front old new : List ℕ) (xs : List X) (i : ℕ) (x : X) → i < length xs → x ≡ get_or xs i x → old ≡ front ++ flat_map f (take i xs)
    → new ≡ old ++ f x → new ≡ front ++ flat_map f (take (i + 1) xs)
part_more f front old new xs i x within is before after =
    let all : flat_map f (take (i + 1) xs) ≡ flat_map f (take i xs) ++ f x =
    ap (flat_map f) (take_more xs i x within)
    ∙ (flat_map-append f (take i xs) (get_or xs i x ∷ []) ∙ (ap (λ k. flat_map f (take i xs) ++ k) (append-nil (f (get_or xs i x))) ∙ ap (λ y. flat_map f (take i xs) ++ f y) (sym is))) in
    after ∙ (ap (λ k. k ++ f x) before ∙ (append_assoc front (flat_map f (take i xs)) (f x) ∙ ap (λ k. front ++ k) (sym all)))
