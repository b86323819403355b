-- A number that is read digit by digit is the number of its text.
use Rattle.std.proofs.Common.{◌≡◌, ◌∙◌, ℕ, ◌+◌, ◌-◌, ◌*◌, ◌/◌, ◌%◌, ◌<◌, ◌≤◌, ◌^◌, ◌++◌, ◌∷◌, [], List, length, take, drop, get_or, decimal, refl, sym, ap, arith, add-one, take-append-drop}
use Rattle.std.proofs.Math.Seq.{take-suc}
use Rattle.std.proofs.Math.Nat.{pow-suc, pow-le-pow_right}
use Rattle.std.proofs.lemmas.Fmt.{decimal_digit, decimal_step}
use Rattle.std.proofs.lemmas.List.{take_all, length-drop}
use Rattle.std.specs.Prelude.{nat_le, ◌&&◌, Bool, true}
use Rattle.std.proofs.lemmas.Bool.{and_parts, leb-true}
use Rattle.qa_scan.specs.Digits.{IsFront, AreEightDigits, IsEightValue}

pub first_digit : (bs : List ℕ) → 1 ≤ length bs → 48 ≤ get_or bs 0 0 → get_or bs 0 0 ≤ 57 → take 1 bs ≡ decimal (get_or bs 0 0 - 48)
first_digit bs some low high =
    let c : ℕ = get_or bs 0 0 in
    let is : 48 + (c - 48) ≡ c = omega arith in
    take-suc bs 0 0 (omega arith) ∙ sym (decimal_digit (c - 48) (omega arith) ∙ ap (λ x. x ∷ []) is)

pub next_digit : (bs : List ℕ) (i n : ℕ) → take i bs ≡ decimal n → i < length bs → 0 < n → n < 1000000000000000000 → 48 ≤ get_or bs i 0 → get_or bs i 0 ≤ 57
    → take (i + 1) bs ≡ decimal (n * 10 + (get_or bs i 0 - 48))
next_digit bs i n is_text within some small low high =
    let c : ℕ = get_or bs i 0 in
    let m : ℕ = n * 10 + (c - 48) in
    let front : m / 10 ≡ n = omega arith in
    let end : 48 + m % 10 ≡ c = omega arith in
    let step : decimal m ≡ decimal n ++ c ∷ [] = decimal_step m (omega arith) (omega arith) ∙ (λ i. decimal (front i) ++ (end i ∷ [])) in
    ap (λ k. take k bs) (add-one i) ∙ take-suc bs i 0 within ∙ ap (λ w. w ++ c ∷ []) is_text ∙ sym step

pub number_then_rest : (bs : List ℕ) (i n : ℕ) → i ≤ length bs → take i bs ≡ decimal n → bs ≡ decimal n ++ take (length bs - i) (drop i bs)
number_then_rest bs i n within is_text =
    sym (take-append-drop i bs) ∙ ap (λ w. w ++ drop i bs) is_text ∙ ap (λ w. decimal n ++ w) (sym (take_all (length bs - i) (drop i bs) (omega (arith, length-drop i bs))))

pub zero_then_rest : (bs : List ℕ) → 1 ≤ length bs → get_or bs 0 0 ≡ 48 → bs ≡ decimal 0 ++ take (length bs - 1) (drop 1 bs)
zero_then_rest bs some is_zero =
    let none : get_or bs 0 0 - 48 ≡ 0 = omega arith in
    number_then_rest bs 1 0 some (first_digit bs some (omega arith) (omega arith) ∙ ap decimal none)

-- ---- how large it is

pub digit_more : (n d i : ℕ) → n < 10 ^ i → d < 10 → n * 10 + d < 10 ^ (i + 1)
digit_more n d i small digit = let step : 10 ^ (i + 1) ≡ 10 ^ i * 10 = ap (λ k. 10 ^ k) (add-one i) ∙ pow-suc 10 i in omega (arith, step)

pub below_digits : (n i j : ℕ) → n < 10 ^ i → i ≤ j → n < 10 ^ j
below_digits n i j small within = let more : 10 ^ i ≤ 10 ^ j = pow-le-pow_right (omega arith) within in omega (arith, small, more)

-- ---- several at once

-- a byte whose test is passed is a digit
pub digit_is : (x : ℕ) (b : Bool) → b ≡ (nat_le 48 x && nat_le x 57) → b ≡ true → (48 ≤ x) × (x ≤ 57)
digit_is x b tests is = let parts = and_parts _ _ (sym tests ∙ is) in (leb-true 48 x parts.0, leb-true x 57 parts.1)

-- one digit more, read as its byte
pub digit_then : (bs : List ℕ) (i j n x m : ℕ) → take i bs ≡ decimal n → j ≡ i + 1 → i < length bs → 0 < n → n < 1000000000000000000 → x ≡ get_or bs i 0 → (48 ≤ x) × (x ≤ 57)
    → m + 48 ≡ n * 10 + x → take j bs ≡ decimal m
digit_then bs i j n x m is_text next within some small is digit sum =
    let last : get_or bs i 0 ≡ x = sym is in
    let same : n * 10 + (get_or bs i 0 - 48) ≡ m = omega (arith, last, digit.0, sum) in
    ap (λ k. take k bs) next ∙ next_digit bs i n is_text within some small (omega (arith, last, digit.0)) (omega (arith, last, digit.1)) ∙ ap decimal same

-- the first digit, read as its byte
digit_first : (bs : List ℕ) (x m : ℕ) → 1 ≤ length bs → x ≡ get_or bs 0 0 → (48 ≤ x) × (x ≤ 57) → m + 48 ≡ x → take 1 bs ≡ decimal m
digit_first bs x m some is digit sum =
    let first : get_or bs 0 0 ≡ x = sym is in
    let same : get_or bs 0 0 - 48 ≡ m = omega (arith, first, sum) in
    first_digit bs some (omega (arith, first, digit.0)) (omega (arith, first, digit.1)) ∙ ap decimal same

-- what four bytes are read as
pub record Four (bs : List ℕ) (n : ℕ) : Type 0 where
  pub is_text : take 4 bs ≡ decimal n
  pub high : 1000 ≤ n
  pub low : n < 10000

pub four_front : (bs : List ℕ) (a b c d n : ℕ) → 4 ≤ length bs → a ≡ get_or bs 0 0 → b ≡ get_or bs 1 0 → c ≡ get_or bs 2 0 → d ≡ get_or bs 3 0 → 49 ≤ a
    → (48 ≤ a) × (a ≤ 57) → (48 ≤ b) × (b ≤ 57) → (48 ≤ c) × (c ≤ 57) → (48 ≤ d) × (d ≤ 57)
    → n + 53328 ≡ (a * 10 + b) * 100 + (c * 10 + d) → Four bs n
four_front bs a b c d n long is_a is_b is_c is_d first da db dc dd sum =
    let x : ℕ = a - 48 in
    let y : ℕ = x * 10 + (b - 48) in
    let z : ℕ = y * 10 + (c - 48) in
    let low_a : 48 ≤ a = da.0 in
    let low_b : 48 ≤ b = db.0 in
    let low_c : 48 ≤ c = dc.0 in
    let low_d : 48 ≤ d = dd.0 in
    let high_a : a ≤ 57 = da.1 in
    let high_b : b ≤ 57 = db.1 in
    let high_c : c ≤ 57 = dc.1 in
    let high_d : d ≤ 57 = dd.1 in
    let one = digit_first bs a x (omega (arith, long)) is_a da (omega (arith, low_a)) in
    let two = digit_then bs 1 2 x b y one (omega arith) (omega (arith, long)) (omega (arith, first)) (omega (arith, high_a)) is_b db (omega (arith, low_b)) in
    let three = digit_then bs 2 3 y c z two (omega arith) (omega (arith, long)) (omega (arith, first)) (omega (arith, high_a, high_b)) is_c dc (omega (arith, low_c)) in
    record {
      is_text = digit_then bs 3 4 z d n three (omega arith) (omega (arith, long)) (omega (arith, first)) (omega (arith, high_a, high_b, high_c)) is_d dd (omega (arith, sum, low_a, low_b, low_c, low_d));
      high = omega (arith, sum, first, low_b, low_c, low_d);
      low = omega (arith, sum, high_a, high_b, high_c, high_d);
    }

-- what eight bytes are read as
pub record Eight (bs : List ℕ) (n : ℕ) : Type 0 where
  pub is_text : take 8 bs ≡ decimal n
  pub high : 0 < n
  pub low : n < 100000000

pub eight_front : (bs : List ℕ) (m e f g h n : ℕ) → 8 ≤ length bs → Four bs m → e ≡ get_or bs 4 0 → f ≡ get_or bs 5 0 → g ≡ get_or bs 6 0 → h ≡ get_or bs 7 0
    → (48 ≤ e) × (e ≤ 57) → (48 ≤ f) × (f ≤ 57) → (48 ≤ g) × (g ≤ 57) → (48 ≤ h) × (h ≤ 57)
    → n + 53328 ≡ m * 10000 + ((e * 10 + f) * 100 + (g * 10 + h)) → Eight bs n
eight_front bs m e f g h n long four is_e is_f is_g is_h de df dg dh sum =
    let x : ℕ = m * 10 + (e - 48) in
    let y : ℕ = x * 10 + (f - 48) in
    let z : ℕ = y * 10 + (g - 48) in
    let low_e : 48 ≤ e = de.0 in
    let low_f : 48 ≤ f = df.0 in
    let low_g : 48 ≤ g = dg.0 in
    let low_h : 48 ≤ h = dh.0 in
    let high_e : e ≤ 57 = de.1 in
    let high_f : f ≤ 57 = df.1 in
    let high_g : g ≤ 57 = dg.1 in
    let high_h : h ≤ 57 = dh.1 in
    let some : 1000 ≤ m = four.high in
    let few : m < 10000 = four.low in
    let five = digit_then bs 4 5 m e x four.is_text (omega arith) (omega (arith, long)) (omega (arith, some)) (omega (arith, few)) is_e de (omega (arith, low_e)) in
    let six = digit_then bs 5 6 x f y five (omega arith) (omega (arith, long)) (omega (arith, some)) (omega (arith, few, high_e)) is_f df (omega (arith, low_f)) in
    let seven = digit_then bs 6 7 y g z six (omega arith) (omega (arith, long)) (omega (arith, some)) (omega (arith, few, high_e, high_f)) is_g dg (omega (arith, low_g)) in
    record {
      is_text = digit_then bs 7 8 z h n seven (omega arith) (omega (arith, long)) (omega (arith, some)) (omega (arith, few, high_e, high_f, high_g)) is_h dh (omega (arith, sum, low_e, low_f, low_g, low_h));
      high = omega (arith, sum, some, low_e, low_f, low_g, low_h);
      low = omega (arith, sum, few, high_e, high_f, high_g, high_h);
    }

pub one_front : (bs : List ℕ) (x n : ℕ) → 1 ≤ length bs → x ≡ get_or bs 0 0 → 49 ≤ get_or bs 0 0 → get_or bs 0 0 ≤ 57 → n ≡ x - 48 → IsFront bs 1 n
one_front bs x n some is low high sum =
    let first : get_or bs 0 0 ≡ x = sym is in
    let above : 49 ≤ x = omega (arith, first, low) in
    let below : x ≤ 57 = omega (arith, first, high) in
    record {
      some = omega arith;
      few = omega arith;
      within = some;
      is_text = digit_first bs x n some is (omega (arith, above), below) (omega (arith, sum, above));
      positive = omega (arith, sum, above);
      small = omega (arith, sum, below);
    }

pub eight_text : (bs : List ℕ) (n : ℕ) → 8 ≤ length bs → 49 ≤ get_or bs 0 0 → AreEightDigits bs → IsEightValue bs n → Eight bs n
eight_text bs n long first digits is =
    let m : ℕ = (get_or bs 0 0 * 10 + get_or bs 1 0) * 100 + (get_or bs 2 0 * 10 + get_or bs 3 0) - 53328 in
    let la = digits.d0.0 in
    let lb = digits.d1.0 in
    let lc = digits.d2.0 in
    let ld = digits.d3.0 in
    let four = four_front bs (get_or bs 0 0) (get_or bs 1 0) (get_or bs 2 0) (get_or bs 3 0) m (omega (arith, long)) refl refl refl refl first digits.d0 digits.d1 digits.d2 digits.d3 (omega (arith, la, lb, lc, ld)) in
    eight_front bs m (get_or bs 4 0) (get_or bs 5 0) (get_or bs 6 0) (get_or bs 7 0) n long four refl refl refl refl digits.d4 digits.d5 digits.d6 digits.d7 (omega (arith, is, la, lb, lc, ld))
