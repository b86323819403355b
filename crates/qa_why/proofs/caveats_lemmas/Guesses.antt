-- Guesses of one line more.
use Rattle.std.proofs.lemmas.Bool.{ne_eqb}
use Rattle.std.specs.Prelude.{◌==◌, codes, is_some, slice_index}
use Rattle.memchr.proofs.lemmas.ValueLemmas.{FindsNeedle-value}
use Rattle.memchr.specs.Find.{FindsNeedle, IsFirstByte, OccursAt, is_byte}
use Rattle.std.proofs.Common.{◌≡◌, ◌∙◌, true, false, ℕ, suc, ◌+◌, List, [], ◌∷◌, ◌++◌, Option, None, Some, length, reverse, refl, sym, ap, arith, if◌then◌else◌, min, ◌^◌, ◌-◌}
use Rattle.std.proofs.lemmas.List.{append_assoc, append-nil, length-append, reverse-append}
use Rattle.qa_why.specs.caveats.Guesses.{Guess, counted, first_bytes, first_line, guess_on, guesses, guesses_behind, is_guessed, with_guess}

-- ---- a line without an x

abbrev key : List ℕ
key = codes "\"x_guess\""

key_length : length key ≡ 9
key_length = refl

-- the key has an x
has_x : (l : List ℕ) (k : ℕ) → OccursAt l key k → is_byte 120 (slice_index l (k + 1)) ≡ true
has_x l k occurs =
    let at : slice_index l (k + 1) ≡ 120 = occurs.reads 1 (omega (arith, key_length)) in
    ap (is_byte 120) at

keyless : (l : List ℕ) → IsFirstByte (is_byte 120) l None → FindsNeedle l key 0 None
keyless l none = λ k low high occurs. none (k + 1) (omega arith) (let fits = occurs.fits in omega (arith, fits, key_length)) (has_x l k occurs)

-- so nothing on it was guessed
pub unguessed : (l : List ℕ) (found : Option ℕ) → is_some found ≡ false → IsFirstByte (is_byte 120) l found → false ≡ is_guessed l
unguessed l None none is = ap is_some (FindsNeedle-value l key None (keyless l is))
unguessed l (Some k) none is = cc

-- ---- one line more

behind_snoc : (n : ℕ) (ls : List (List ℕ)) (l : List ℕ) → guesses_behind n (ls ++ l ∷ []) ≡ guesses_behind n ls ++ guess_on (n + length ls + 1) l
behind_snoc n [] l = append-nil (guess_on (n + 1) l) ∙ ap (λ k. guess_on k l) (omega arith)
behind_snoc n (m ∷ ls) l =
    let place : n + 1 + length ls + 1 ≡ n + length (m ∷ ls) + 1 = omega arith in
    ap (λ gs. guess_on (n + 1) m ++ gs) (behind_snoc (n + 1) ls l ∙ ap (λ k. guesses_behind (n + 1) ls ++ guess_on k l) place)
    ∙ sym (append_assoc (guess_on (n + 1) m) (guesses_behind (n + 1) ls) _)

-- the guesses of lines and of one more
pub guesses_snoc : (ls : List (List ℕ)) (l : List ℕ) → guesses (ls ++ l ∷ []) ≡ guesses ls ++ guess_on (length ls + 1) l
guesses_snoc ls l = behind_snoc 0 ls l ∙ ap (λ k. guesses ls ++ guess_on k l) (omega arith)

pub last_line_is : (gs : List Guess) (n : ℕ) (l : List ℕ) → n ≡ first_line (reverse (with_guess gs n l))
last_line_is gs n l = sym (ap first_line (reverse-append gs _))

pub last_bytes_are : (gs : List Guess) (n : ℕ) (l : List ℕ) → l ≡ first_bytes (reverse (with_guess gs n l))
last_bytes_are gs n l = sym (ap first_bytes (reverse-append gs _))

pub count_more : (gs : List Guess) (n : ℕ) (l : List ℕ) → min (counted (length gs) + 1) (2 ^ 64 - 1) ≡ counted (length (with_guess gs n l))
count_more gs n l = sym (ap counted (length-append gs _) ∙ (omega arith))

not_none : (n : ℕ) → (counted (suc n) == 0) ≡ false
not_none n = ne_eqb (counted (suc n)) 0 (λ is. omega arith)

pub first_line_is : (gs : List Guess) (n : ℕ) (l : List ℕ) → (if counted (length gs) == 0 then n else first_line gs) ≡ first_line (with_guess gs n l)
first_line_is [] n l = refl
first_line_is (g ∷ gs) n l = rw (not_none (length gs)) refl
