-- The value of digits, and the whole part of a number by its first digits.
use Rattle.std.proofs.Common.{◌≡◌, ◌∙◌, ◌⊎◌, inl, inr, ◌+◌, ◌-◌, ◌*◌, ◌/◌, ◌^◌, ◌<◌, ◌≤◌, ◌++◌, ◌∷◌, ◌&&◌, ℕ, zero, suc, List, [], length, take, drop, get_or, min, Bool, true, false, refl, sym, ap, ap₂, arith, pow-suc, pow-add, mul-lt-mul_of_pos_right, lt_of_lt_of_le, take_all, nat_le, le-leb}
use Rattle.std.proofs.lemmas.Bool.{cases_lt, lt-leb}
use Rattle.std.proofs.lemmas.Nat.{div-mul-add}
use Rattle.std.proofs.Math.Nat.{pow-le-pow_right}
use Rattle.std.proofs.Common.{lit<}
use Rattle.std.specs.Char.{digit_value}
use Rattle.std.specs.List.{prefix_len}
use Rattle.std.specs.Str.Parse.{AllDigits, digits_value, digits_value_after}
use Rattle.fast_float.proofs.ExactLemmas.{ten_to_pos}
use Rattle.fast_float.proofs.Rows.{many_more, value_below}

-- ---- one more digit

after_more : (n : ℕ) (ds : List ℕ) (i : ℕ) → i < length ds
    → digits_value_after 10 n (take (suc i) ds) ≡ digits_value_after 10 n (take i ds) * 10 + digit_value (get_or ds i 0)
after_more n [] i within = absurd (omega arith)
after_more n (d ∷ ds) zero within = refl
after_more n (d ∷ ds) (suc i) within = after_more (n * 10 + digit_value d) ds i (omega arith)

pub after_one_more : (n : ℕ) (ds : List ℕ) (i : ℕ) → i < length ds
    → digits_value_after 10 n (take (i + 1) ds) ≡ digits_value_after 10 n (take i ds) * 10 + digit_value (get_or ds i 0)
after_one_more n ds i within =
    let same : i + 1 ≡ suc i = omega arith in
    rw same (after_more n ds i within)

pub after_both : (n : ℕ) (xs ys : List ℕ) → digits_value_after 10 n (xs ++ ys) ≡ digits_value_after 10 (digits_value_after 10 n xs) ys
after_both n [] ys = refl
after_both n (x ∷ xs) ys = after_both (n * 10 + digit_value x) xs ys

pub digits_front : (xs ys : List ℕ) → AllDigits 10 (xs ++ ys) → AllDigits 10 xs
digits_front [] ys all = tt
digits_front (x ∷ xs) ys all = (all.0, digits_front xs ys all.1)

pub digits_back : (xs ys : List ℕ) → AllDigits 10 (xs ++ ys) → AllDigits 10 ys
digits_back [] ys all = all
digits_back (x ∷ xs) ys all = digits_back xs ys all.1

-- ---- digits before and after a point

pub take_both : (n : ℕ) (xs ys : List ℕ) → length xs ≤ n → take n (xs ++ ys) ≡ xs ++ take (n - length xs) ys
take_both n [] ys over =
    let same : n - 0 ≡ n = omega arith in
    ap (λ k. take k ys) (sym same)
take_both zero (x ∷ xs) ys over = absurd (omega arith)
take_both (suc n) (x ∷ xs) ys over =
    let same : suc n - suc (length xs) ≡ n - length xs = omega arith in
    rw same (ap (λ l. x ∷ l) (take_both n xs ys (omega arith)))

pub value_both : (n : ℕ) (xs ys : List ℕ) → length xs ≤ n
    → digits_value_after 10 (digits_value 10 xs) (take (n - length xs) ys) ≡ digits_value 10 (take n (xs ++ ys))
value_both n xs ys over =
    sym (after_both 0 xs (take (n - length xs) ys)) ∙ ap (digits_value 10) (sym (take_both n xs ys over))

-- ---- numbers under a cap

pub capped_more : (c m v d : ℕ) → v ≡ min m c → min (v * 10 + d) c ≡ min (m * 10 + d) c
capped_more c m v d is = omega arith

pub capped_tens : (c n i v : ℕ) → v ≡ min (n * 10 ^ i) c → min (v * 10) c ≡ min (n * 10 ^ (i + 1)) c
capped_tens c n i v is =
    let same : i + 1 ≡ suc i = omega arith in
    let tens = ap (λ x. n * x) (pow-suc 10 i) in
    rw same (omega arith)

-- ---- zeros in front

pub zeros_on : (p : ℕ → Bool) (xs ys : List ℕ) → prefix_len p xs ≡ length xs → prefix_len p (xs ++ ys) ≡ length xs + prefix_len p ys
zeros_on p [] ys all = omega arith
zeros_on p (x ∷ xs) ys all = by (zeros_on p xs ys) (p x) refl all
  where
    by : (prefix_len p xs ≡ length xs → prefix_len p (xs ++ ys) ≡ length xs + prefix_len p ys) → (b : Bool) → p x ≡ b
        → prefix_len p (x ∷ xs) ≡ length (x ∷ xs) → prefix_len p ((x ∷ xs) ++ ys) ≡ length (x ∷ xs) + prefix_len p ys
    by later true is here =
        let all_here = rw is at here in
        let rest = later (omega arith) in
        rw is (omega arith)
    by later false is here =
        let all_here = rw is at here in
        absurd (omega arith)

pub zeros_here : (p : ℕ → Bool) (xs ys : List ℕ) → (prefix_len p xs ≡ length xs → ⊥) → prefix_len p (xs ++ ys) ≡ prefix_len p xs
zeros_here p [] ys some = absurd (some refl)
zeros_here p (x ∷ xs) ys some = by (zeros_here p xs ys) (p x) refl some
  where
    by : ((prefix_len p xs ≡ length xs → ⊥) → prefix_len p (xs ++ ys) ≡ prefix_len p xs) → (b : Bool) → p x ≡ b
        → (prefix_len p (x ∷ xs) ≡ length (x ∷ xs) → ⊥) → prefix_len p ((x ∷ xs) ++ ys) ≡ prefix_len p (x ∷ xs)
    by later true is here =
        let some_here = rw is at here in
        let rest = later (λ e. some_here (omega arith)) in
        rw is (omega arith)
    by later false is here = rw is refl

-- ---- near the point

same_le : (a b c d : ℕ) → (a ≤ b → c ≤ d) → (c ≤ d → a ≤ b) → nat_le a b ≡ nat_le c d
same_le a b c d to from = elim (cases_lt b a) [
  | inl far ↦ lt-leb a b far ∙ sym (lt-leb c d (elim (cases_lt d c) [ inl more ↦ more | inr near ↦ absurd (let l = from near in omega arith) ]))
  | inr near ↦ le-leb a b near ∙ sym (le-leb c d (to near))
]

-- whether two places are near is seen under a cap, if one of them is moved by nothing
pub near_capped : (c a b r l most : ℕ) → a + most < c → b + most < c → (r ≡ 0) ⊎ (l ≡ 0)
    → (nat_le (a + min r c) (b + min l c + most) && nat_le (b + min l c) (a + min r c + most)) ≡ (nat_le (a + r) (b + l + most) && nat_le (b + l) (a + r + most))
near_capped c a b r l most short_a short_b one =
    let right : nat_le (a + min r c) (b + min l c + most) ≡ nat_le (a + r) (b + l + most) = elim one [
      | inl e ↦ same_le (a + min r c) (b + min l c + most) (a + r) (b + l + most) (λ h. omega arith) (λ h. omega arith)
      | inr e ↦ same_le (a + min r c) (b + min l c + most) (a + r) (b + l + most) (λ h. omega arith) (λ h. omega arith)
    ] in
    let left : nat_le (b + min l c) (a + min r c + most) ≡ nat_le (b + l) (a + r + most) = elim one [
      | inl e ↦ same_le (b + min l c) (a + min r c + most) (b + l) (a + r + most) (λ h. omega arith) (λ h. omega arith)
      | inr e ↦ same_le (b + min l c) (a + min r c + most) (b + l) (a + r + most) (λ h. omega arith) (λ h. omega arith)
    ] in
    ap₂ (λ x y. x && y) right left

-- ---- the whole part

pub tens_over : (v e d : ℕ) → d ≤ e → v * 10 ^ e / 10 ^ d ≡ v * 10 ^ (e - d)
tens_over v e d fits =
    let is : e - d + d ≡ e = omega arith in
    let split : 10 ^ e ≡ 10 ^ (e - d) * 10 ^ d = ap (λ k. 10 ^ k) (sym is) ∙ pow-add 10 (e - d) d in
    let product = ap (λ x. v * x) split in
    let whole : v * 10 ^ e ≡ v * 10 ^ (e - d) * 10 ^ d + 0 = omega arith in
    ap (λ x. x / 10 ^ d) whole ∙ div-mul-add (v * 10 ^ (e - d)) (10 ^ d) 0 (ten_to_pos d)

tens_under : (v f g e d m : ℕ) → d ≡ m + e → v ≡ f * 10 ^ m + g → g < 10 ^ m → v * 10 ^ e / 10 ^ d ≡ f
tens_under v f g e d m sum parts below =
    let split : 10 ^ d ≡ 10 ^ m * 10 ^ e = ap (λ k. 10 ^ k) sum ∙ pow-add 10 m e in
    let less : g * 10 ^ e < 10 ^ m * 10 ^ e = mul-lt-mul_of_pos_right {k = 10 ^ e} below (ten_to_pos e) in
    let product = ap (λ x. x * 10 ^ e) parts in
    let whole : v * 10 ^ e ≡ f * (10 ^ m * 10 ^ e) + g * 10 ^ e = omega arith in
    ap₂ (λ x y. x / y) whole split ∙ div-mul-add f (10 ^ m * 10 ^ e) (g * 10 ^ e) less

-- digits with a point after the first a, which is moved r places to the right and l to the left
pub whole_part : (ds : List ℕ) (a b r l : ℕ) → AllDigits 10 ds → length ds ≡ a + b
    → digits_value 10 ds * 10 ^ r / 10 ^ (b + l) ≡ digits_value 10 (take (a + r - l) ds) * 10 ^ (a + r - l - length ds)
whole_part ds a b r l all long = elim (cases_lt r (b + l)) [
  | inr over ↦
      let kept : take (a + r - l) ds ≡ ds = take_all (a + r - l) ds (omega arith) in
      let zeros : r - (b + l) ≡ a + r - l - length ds = omega arith in
      tens_over (digits_value 10 ds) r (b + l) over ∙ ap₂ (λ xs k. digits_value 10 xs * 10 ^ k) (sym kept) zeros
  | inl under ↦ elim (cases_lt (length ds) (b + l - r)) [
    | inl none ↦
        let kept : a + r - l ≡ 0 = omega arith in
        let all_of : take (length ds) ds ≡ ds = take_all (length ds) ds (omega arith) in
        let less : digits_value 10 (take (length ds) ds) < 10 ^ length ds = value_below ds 0 (length ds) all in
        let small : digits_value 10 ds < 10 ^ (b + l - r) =
        lt_of_lt_of_le (rw all_of at less) (pow-le-pow_right (lit< tt) (omega arith)) in
        tens_under (digits_value 10 ds) 0 (digits_value 10 ds) r (b + l) (b + l - r) (omega arith) (omega arith) small
        ∙ (rw kept (omega arith))
    | inr some ↦
        let m = b + l - r in
        let kept : a + r - l ≡ length ds - m = omega arith in
        let sum : length ds - m + m ≡ length ds = omega arith in
        let all_of : take (length ds) ds ≡ ds = take_all (length ds) ds (omega arith) in
        let parts = rw (sum, all_of) at (many_more ds (length ds - m) m (omega arith)) in
        let none : length ds - m - length ds ≡ 0 = omega arith in
        tens_under (digits_value 10 ds) (digits_value 10 (take (length ds - m) ds)) (digits_value 10 (take m (drop (length ds - m) ds))) r (b + l) m (omega arith) parts (value_below ds (length ds - m) m all)
        ∙ rw (kept, none) (omega arith)
  ]
]
