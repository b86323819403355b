-- The values of few digits, and of a text of digits alone.
use Rattle.std.proofs.Common.{◌≡◌, ◌∙◌, ◌+◌, ◌-◌, ◌*◌, ◌^◌, ◌<◌, ◌≤◌, ◌++◌, ◌∷◌, ◌&&◌, ◌==◌, ℕ, suc, List, [], length, take, drop, Bool, true, false, nat_le, refl, sym, ap, arith, lt_of_lt_of_le, append-nil, lit<, take_all, Some}
use Rattle.std.proofs.lemmas.Bool.{lt-ltb, eq-eqb, leb-true, ne_eqb}
use Rattle.std.proofs.lemmas.List.{drop_all, length-take}
use Rattle.std.proofs.Math.Nat.{pow-le-pow_right, pow-succ', mul_assoc, mul-le-mul, mul-le-mul_right}
use Rattle.std.specs.Char.{digit_value, is_ascii_digit}
use Rattle.std.specs.List.{prefix_len}
use Rattle.std.specs.Str.Parse.{AllDigits, digits_value, digits_value_after}
use Rattle.fast_float.specs.Text.{Parts, scan, IsWellFormed, text_of}
use Rattle.fast_float.proofs.Rows.{AllDigits-take}
use Rattle.fast_float.proofs.Writing.{scan-text_of}
use Rattle.fast_float.proofs.DigitsLemmas.{is_digit}
use Rattle.qa_qlog.specs.Numbers.{unsigned}
use Rattle.qa_qlog.specs.Times.{begins_above_zero, digits, is_zero}

-- ---- bounds

pub after_below : (n : ℕ) (ds : List ℕ) → AllDigits 10 ds → digits_value_after 10 n ds < (n + 1) * 10 ^ length ds
after_below n [] all = omega arith
after_below n (d ∷ ds) all =
    let tens = 10 ^ length ds in
    let here : digit_value d < 10 = all.0 in
    let one : n * 10 + digit_value d + 1 ≤ (n + 1) * 10 = omega arith in
    let whole : (n + 1) * 10 * tens ≡ (n + 1) * 10 ^ suc (length ds) = mul_assoc (n + 1) 10 tens ∙ ap (λ x. (n + 1) * x) (sym (pow-succ' 10 (length ds))) in
    let more = mul-le-mul_right tens one in
    lt_of_lt_of_le (after_below (n * 10 + digit_value d) ds all.1) (rw whole at more)

-- of a small number and a few digits
pub after_few : (n : ℕ) (ds : List ℕ) (k : ℕ) → AllDigits 10 ds → length ds ≤ k → n < 1000000000
    → digits_value_after 10 n ds < 1000000000 * 10 ^ k
after_few n ds k all few small =
    let tens : 10 ^ length ds ≤ 10 ^ k = pow-le-pow_right (lit< tt) few in
    let one : n + 1 ≤ 1000000000 = omega arith in
    lt_of_lt_of_le (after_below n ds all) (mul-le-mul one tens)

-- ---- digits alone

plain_parts : List ℕ → Parts
plain_parts ds = record { whole = ds; point = false; fraction = []; exponent_negative = false; exponent = []; len = length ds }

plain_text : (ds : List ℕ) → AllDigits 10 ds → scan ds ≡ plain_parts ds
unfolding plain_parts
plain_text ds all =
    let same : text_of (plain_parts ds) ≡ ds = append-nil ds in
    let well : IsWellFormed (plain_parts ds) = record {
      whole_digits = all;
      fraction_digits = tt;
      exponent_digits = tt;
      no_point = λ e. refl;
      no_exponent = λ e. refl;
      len_is = ap length (sym same);
    } in
    ap scan (sym same) ∙ scan-text_of (plain_parts ds) well

pub plain_number : (ds : List ℕ) → AllDigits 10 ds → 0 < length ds → digits_value 10 ds < 2 ^ 64
    → unsigned ds ≡ Some (digits_value 10 ds)
unfolding plain_parts
plain_number ds all some fits =
    let zero_more : length ds + 0 ≡ length ds = omega arith in
    let none : drop (length ds + 0) (ds ++ []) ≡ [] = rw (append-nil, zero_more, drop_all (length ds) ds (omega arith)) refl in
    let all_of : take (length ds + 0) (ds ++ []) ≡ ds = rw (append-nil, zero_more, take_all (length ds) ds (omega arith)) refl in
    let no_zeros : length ds + 0 - length (ds ++ []) ≡ 0 = rw append-nil (omega arith) in
    rw (plain_text ds all, lt-ltb 0 (length ds + 0) (omega arith), eq-eqb (length ds) (length ds) refl, none, all_of, no_zeros, lt-ltb (digits_value 10 ds * 1) (2 ^ 64) (omega arith)) (ap Some (omega arith))

pub few_after : (n : ℕ) (ds : List ℕ) (i k : ℕ) → AllDigits 10 ds → i ≤ k → n < 1000000000
    → digits_value_after 10 n (take i ds) < 1000000000 * 10 ^ k
few_after n ds i k all few small =
    after_few n (take i ds) k (AllDigits-take i ds all) (omega (arith, length-take i ds)) small

-- ---- a digit other than 0 in front

nonzero_front : (b : ℕ) (ds : List ℕ) → (b == 48) ≡ false → (prefix_len is_zero (b ∷ ds) == length (b ∷ ds)) ≡ false
nonzero_front b ds other = rw other (ne_eqb 0 (length (b ∷ ds)) (λ e. omega arith))

front : (b : ℕ) (bs : List ℕ) → is_ascii_digit b ≡ true → (scan (b ∷ bs)).whole ≡ b ∷ take (prefix_len is_ascii_digit bs) bs
unfolding scan
front b bs digit =
    let count = prefix_len is_ascii_digit bs in
    let same : 0 + (1 + count) - 0 ≡ suc count = omega arith in
    rw digit (rw same refl)

pub above_zero : (text : List ℕ) → begins_above_zero text ≡ true
    → (prefix_len is_zero (digits (scan text)) == length (digits (scan text))) ≡ false
above_zero [] impossible = absurd (cc)
above_zero (b ∷ bs) is =
    let least : 49 ≤ b = leb-true 49 b (and-left (nat_le 49 b) (nat_le b 57) is) in
    let most : b ≤ 57 = leb-true b 57 (and-right (nat_le 49 b) (nat_le b 57) is) in
    let digit : is_ascii_digit b ≡ true = (is_digit b (omega arith) most).0 in
    let other : (b == 48) ≡ false = ne_eqb b 48 (λ e. omega arith) in
    let p = scan (b ∷ bs) in
    ap (λ ds. prefix_len is_zero (ds ++ p.fraction) == length (ds ++ p.fraction)) (front b bs digit)
    ∙ nonzero_front b (take (prefix_len is_ascii_digit bs) bs ++ p.fraction) other
  where
    and-left : (a c : Bool) → (a && c) ≡ true → a ≡ true
    and-left true c h = refl
    and-left false c h = absurd (cc)

    and-right : (a c : Bool) → (a && c) ≡ true → c ≡ true
    and-right true c h = h
    and-right false c h = absurd (cc)
