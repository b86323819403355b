-- Numbers of few digits, with a point among them or without one.
use Rattle.std.proofs.Common.{◌≡◌, ◌∙◌, ◌+◌, ◌-◌, ◌*◌, ◌^◌, ◌<◌, ◌≤◌, ◌++◌, ◌∷◌, ◌⊎◌, inl, inr, ℕ, suc, List, [], length, take, Bool, true, false, nat_le, ◌&&◌, Ok, refl, sym, ap, arith, append-nil, length-append, pow-suc, pow-add, le-leb}
use Rattle.std.proofs.lemmas.Bool.{lt-ltb, eq-eqb}
use Rattle.std.proofs.lemmas.List.{length-take}
use Rattle.std.proofs.Math.Nat.{pow-le-pow_right, mul-le-mul}
use Rattle.std.proofs.Common.{lit<}
use Rattle.std.specs.Str.Parse.{AllDigits, digits_value, digits_value_after}
use Rattle.fast_float.specs.Text.{Parts, scan, IsWellFormed, text_of}
use Rattle.fast_float.proofs.Writing.{scan-text_of}
use Rattle.fast_float.proofs.ExactLemmas.{ten_to_pos}
use Rattle.qa_qlog.specs.Times.{leading, numeral, places, size}
use Rattle.qa_qlog.specs.declared.times.Unit.{Unit}
use Rattle.qa_qlog.proofs.Digits.{after_both, tens_over}
use Rattle.qa_qlog.proofs.Plain.{after_below}

-- ---- bounds

pub tens_more : (n i v : ℕ) → v ≡ n * 10 ^ i → v * 10 ≡ n * 10 ^ (i + 1)
tens_more n i v is =
    let same : i + 1 ≡ suc i = omega arith in
    let tens = ap (λ x. n * x) (pow-suc 10 i) in
    rw same (omega arith)

pub tens_within : (n i k m : ℕ) → i < k → n * 10 ^ k < m → n * 10 ^ (i + 1) < m
tens_within n i k m within below =
    let powers : 10 ^ (i + 1) ≤ 10 ^ k = pow-le-pow_right (lit< tt) (omega arith) in
    let same : n ≤ n = omega arith in
    let more = mul-le-mul same powers in
    omega arith

-- the first digits of some, and one more
pub behind_below : (n : ℕ) (ds : List ℕ) (i m : ℕ) → AllDigits 10 (take i ds) → i < length ds → (n + 1) * 10 ^ length ds ≤ m
    → digits_value_after 10 n (take i ds) * 10 + 10 ≤ m
behind_below n ds i m all within fits =
    let len : length (take i ds) ≡ i = omega (arith, length-take i ds) in
    let below : digits_value_after 10 n (take i ds) < (n + 1) * 10 ^ i = rw len at (after_below n (take i ds) all) in
    let tens = tens_more (n + 1) i ((n + 1) * 10 ^ i) refl in
    let powers : 10 ^ (i + 1) ≤ 10 ^ length ds = pow-le-pow_right (lit< tt) (omega arith) in
    let same : n + 1 ≤ n + 1 = omega arith in
    let more = mul-le-mul same powers in
    omega arith

-- with so many digits more
pub room_behind : (v w f k m : ℕ) → v + 1 ≤ (0 + 1) * 10 ^ w → w + f ≤ k → 10 ^ k ≤ m → (v + 1) * 10 ^ f ≤ m
room_behind v w f k m below few fits =
    let same : 10 ^ f ≤ 10 ^ f = omega arith in
    let low : v + 1 ≤ 10 ^ w = omega arith in
    let more = mul-le-mul low same in
    let sum = pow-add 10 w f in
    let powers : 10 ^ (w + f) ≤ 10 ^ k = pow-le-pow_right (lit< tt) few in
    omega arith

pub room_zeros : (n v w f z k m : ℕ) → n + 1 ≤ (v + 1) * 10 ^ f → v + 1 ≤ (0 + 1) * 10 ^ w → w + f + z ≤ k → 10 ^ k ≤ m → n * 10 ^ z < m
room_zeros n v w f z k m below low few fits =
    let both : (v + 1) * 10 ^ f ≤ 10 ^ (w + f) = room_behind v w f (w + f) (10 ^ (w + f)) low (omega arith) (omega arith) in
    let here : n + 1 ≤ (0 + 1) * 10 ^ (w + f) = omega arith in
    let all = room_behind n (w + f) z k m here few fits in
    let some = ten_to_pos z in
    let split : (n + 1) * 10 ^ z ≡ n * 10 ^ z + 10 ^ z = omega arith in
    omega arith

-- ---- what a text of few digits is

simple : Bool → List ℕ → List ℕ → ℕ → Parts
simple b ws fs len = record { whole = ws; point = b; fraction = fs; exponent_negative = false; exponent = []; len = len }

same_text : (b : Bool) (ws fs : List ℕ) (text : List ℕ) → (b ≡ true) × (text ≡ ws ++ 46 ∷ fs) ⊎ (b ≡ false) × (text ≡ ws) × (fs ≡ [])
    → text_of (simple b ws fs (length text)) ≡ text
unfolding simple
same_text b ws fs text (inl (is, here)) = rw (is, append-nil fs) (sym here)
same_text b ws fs text (inr (is, here, none)) = rw is (append-nil ws ∙ sym here)

-- what all of a text with so few digits is
pub record Few (unit : Unit) (text ws fs : List ℕ) : Type 0 where
  pub is : (text ≡ ws ++ 46 ∷ fs) ⊎ (text ≡ ws) × (fs ≡ [])
  pub whole : AllDigits 10 ws
  pub fraction : AllDigits 10 fs
  pub some : 0 < length ws
  pub behind : length fs ≤ places unit
  pub few : length ws + places unit ≤ 19

abbrev parts_of : Bool → List ℕ → List ℕ → List ℕ → Parts
parts_of b ws fs text = simple b ws fs (length text)

leading_few : (ds : List ℕ) → leading ds ≤ length ds
leading_few ds = omega arith

near_few : (w f l : ℕ) → w + f ≤ 19 → l ≤ w + f → (nat_le (w + 0) (l + 0 + 40) && nat_le (l + 0) (w + 0 + 40)) ≡ true
near_few w f l few near = rw (le-leb (w + 0) (l + 0 + 40) (omega arith), le-leb (l + 0) (w + 0 + 40) (omega arith)) refl

known : (unit : Unit) (b : Bool) (text ws fs : List ℕ) → text_of (parts_of b ws fs text) ≡ text → (b ≡ false → fs ≡ []) → Few unit text ws fs
    → numeral text ≡ Ok (parts_of b ws fs text)
unfolding simple
known unit b text ws fs same none few =
    let p = parts_of b ws fs text in
    let well : IsWellFormed p = record {
      whole_digits = few.whole;
      fraction_digits = few.fraction;
      exponent_digits = tt;
      no_point = none;
      no_exponent = λ e. refl;
      len_is = ap length (sym same);
    } in
    let scanned : scan text ≡ p = ap scan (sym same) ∙ scan-text_of p well in
    let some = few.some in
    let behind = few.behind in
    let fits = few.few in
    let long = length-append ws fs in
    let lead = leading_few (ws ++ fs) in
    let near = near_few (length ws) (length fs) (leading (ws ++ fs)) (omega arith) (omega arith) in
    rw (scanned, lt-ltb 0 (length ws + length fs) (omega arith), eq-eqb (length text) (length text) refl, near) refl

sized : (unit : Unit) (b : Bool) (text ws fs : List ℕ) → Few unit text ws fs
    → size unit (parts_of b ws fs text) ≡ digits_value_after 10 (digits_value_after 10 0 ws) fs * 10 ^ (places unit - length fs)
unfolding simple
sized unit b text ws fs few =
    let none : 0 + places unit ≡ places unit = omega arith in
    let down : length fs + 0 ≡ length fs = omega arith in
    rw (none, down) (tens_over (digits_value 10 (ws ++ fs)) (places unit) (length fs) few.behind)
    ∙ ap (λ n. n * 10 ^ (places unit - length fs)) (after_both 0 ws fs)

pub short : (unit : Unit) (text ws fs : List ℕ) → Few unit text ws fs
    → (p : Parts) × (numeral text ≡ Ok p) × (size unit p ≡ digits_value_after 10 (digits_value_after 10 0 ws) fs * 10 ^ (places unit - length fs))
short unit text ws fs few = elim few.is [
  | inl pointed ↦
      let same = same_text true ws fs text (inl (refl, pointed)) in
      (parts_of true ws fs text, known unit true text ws fs same (λ e. absurd (cc)) few, sized unit true text ws fs few)
  | inr (plain, none) ↦
      let same = same_text false ws fs text (inr (refl, plain, none)) in
      (parts_of false ws fs text, known unit false text ws fs same (λ e. none) few, sized unit false text ws fs few)
]
