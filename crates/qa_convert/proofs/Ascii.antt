-- Texts of ASCII.
use Rattle.std.specs.Prelude.{if◌then◌else◌, codes}
use Rattle.std.proofs.Common.{◌≡◌, ◌∙◌, ◌+◌, ◌%◌, ◌^◌, ◌<◌, ℕ, List, [], ◌∷◌, ◌++◌, true, false, Bool, nat_lt, decimal, refl, lt-ltb, ap, arith}
use Rattle.std.specs.List.{list_any}
use Rattle.std.specs.Prelude.{◌&&◌, ◌||◌, not}
use Rattle.std.proofs.lemmas.Bool.{and_parts, and_from}
use Rattle.std.proofs.lemmas.Fmt.{decimal_by_steps}
use Rattle.qa_format.specs.format.Simple.{is_ascii}
use Rattle.qa_convert.specs.Places.{is_place, place_text, stretch_text}
use Rattle.qa_convert.specs.declared.place.Stretch.{Stretch}

pub is_ascii-append : (xs ys : List ℕ) → is_ascii xs ≡ true → is_ascii ys ≡ true → is_ascii (xs ++ ys) ≡ true
is_ascii-append [] ys first second = second
is_ascii-append (x ∷ xs) ys first second =
    let parts = and_parts (nat_lt x 128) (is_ascii xs) first in
    and_from (nat_lt x 128) (is_ascii (xs ++ ys)) parts.0 (is_ascii-append xs ys parts.1 second)

digit_is : (d : ℕ) → d < 10 → is_ascii ((48 + d) ∷ []) ≡ true
digit_is d small = and_from (nat_lt (48 + d) 128) true (lt-ltb (48 + d) 128 (omega (arith, small))) refl

pub decimal_is_ascii : (n : ℕ) → n < 2 ^ 64 → is_ascii (decimal n) ≡ true
decimal_is_ascii n small = decimal_by_steps (λ m ds. is_ascii ds ≡ true) (λ m l. digit_is m l) (λ m ds l h. is_ascii-append ds ((48 + m % 10) ∷ []) h (digit_is (m % 10) (omega arith))) n small

begun_is_ascii : (guess : Bool) → is_ascii (if guess then codes "guessed at " else []) ≡ true
begun_is_ascii true = refl
begun_is_ascii false = refl

ended_is_ascii : (same : Bool) (last : List ℕ) → (same ≡ false → is_ascii last ≡ true) → is_ascii (if same then [] else codes " to " ++ last) ≡ true
ended_is_ascii true last later = refl
ended_is_ascii false last later = later refl

pub stretch_is_ascii : (s : Stretch) → is_ascii (place_text s.first) ≡ true → (is_place s.first s.last ≡ false → is_ascii (place_text s.last) ≡ true)
    → is_ascii (stretch_text s) ≡ true
stretch_is_ascii s first later =
    let begun = if s.is_guess then codes "guessed at " else [] in
    let ended = if is_place s.first s.last then [] else codes " to " ++ place_text s.last in
    is_ascii-append (begun ++ place_text s.first) ended (is_ascii-append begun (place_text s.first) (begun_is_ascii s.is_guess) first)
    (ended_is_ascii (is_place s.first s.last) (place_text s.last) later)

one_below : (b rest : Bool) → not (not b || rest) ≡ b && not rest
one_below true rest = refl
one_below false rest = refl

pub none_above : (xs : List ℕ) → not (list_any (λ x. not (nat_lt x 128)) xs) ≡ is_ascii xs
none_above [] = refl
none_above (x ∷ xs) =
    one_below (nat_lt x 128) (list_any (λ y. not (nat_lt y 128)) xs) ∙ ap (λ rest. nat_lt x 128 && rest) (none_above xs)
