-- Lanes of a vector as the digits of an integer.
use Rattle.std.proofs.Common.{◌≡◌, ◌∙◌, ℕ, zero, suc, ◌+◌, ◌-◌, ◌*◌, ◌/◌, ◌%◌, ◌^◌, ◌<◌, ◌≤◌, Bool, true, false, cond, leb, ltb, T, List, [], ◌∷◌, ◌++◌, map, length, get_or, take, drop, replicate, get_or-take, length-take, length-drop, get_or-drop, drop-drop, take-append-drop, decimal, refl, sym, ap, subst, arith, inl, inr, pow-suc, rules, w8, w64, max, div-lt_iff_lt-mul, div-add-mod', take_all}
use Rattle.std.specs.Prelude.{⊤, bit_and, bit_or}
use Rattle.std.specs.List.{range_with_len}
use Rattle.std.proofs.lemmas.Bool.{cases_lt, cases_Bool, leb-false}
use Rattle.std.proofs.lemmas.List.{ext_get_or, get_or-map, get_or_past, length-map}
use Rattle.std.proofs.lemmas.List.FromFn.{length-map-range_with_len, get_or-map-range_with_len}
use Rattle.std.proofs.lemmas.Nat.{and_mask, or_lt}
use Rattle.std.specs.Int.{bit_at}
use Rattle.std.proofs.lemmas.Nat.Bits.{bit_at_or, bit_at-lt, bit_at-trailing_zeros}
use Rattle.std.proofs.lemmas.Simd.{swz_l, SwzOk, tops_compared, zip2_splat_left, mask_l-mod, bit_mask_l, length-zip2, length-swz_l, get_or-zip2, get_or-replicate}
use lib.Lanes.{number_l, digits_l, chunk, zip2, top, mask_l}
use lib.Count.{count_trailing_zeros}
use Rattle.qa_scan.proofs.Numerals.{first_digit, digit_then, digit_more, below_digits}
use Rattle.qa_scan.specs.Short.{AreLessZero, IsShort, AllBelow, AreDigits, in_pairs, number_of, sixteen_value}

-- ---- lists that are written out

abbrev pub Each : (ℕ → Type 0) → ℕ → Type 0
Each P zero = ⊤
Each P (suc n) = P n × Each P n

pub each : (P : ℕ → Type 0) (n k : ℕ) → Each P n → k < n → P k
each P zero k h l = absurd (omega arith)
each P (suc n) k h l = elim (cases_lt k n) [ inl a ↦ each P n k h.1 a | inr a ↦ let e : n ≡ k = omega arith in subst P e h.0 ]

abbrev pub listed : (ℕ → ℕ) → ℕ → List ℕ
listed f n = map f (range_with_len 0 n)

-- a fact of each list of n numbers, from the same of n numbers that are written out
pub spelled : (P : List ℕ → Type 0) (n : ℕ) → ((f : ℕ → ℕ) → P (listed f n)) → (xs : List ℕ) → length xs ≡ n → P xs
spelled P n h xs long =
    let f = λ (k : ℕ). get_or xs k 0 in
    let many = length-map-range_with_len f 0 n in
    subst P (ext_get_or 0 _ xs (many ∙ sym long) (λ i l. get_or-map-range_with_len f 0 n i i 0 (omega arith) (omega arith))) (h f)

-- ---- lanes twice as wide

pub number_of_digits : (p n x : ℕ) → 0 < p → x < p ^ n → number_l p (digits_l p n x) ≡ x
number_of_digits p zero x P h = omega (arith, native.Mathlib.Nat.pow-zero p)
number_of_digits p (suc n) x P h =
    let less : x / p < p ^ n = (div-lt_iff_lt-mul P).1 (rw (← pow-suc p n) h) in
    rw (number_of_digits p n (x / p) P less) (omega (arith, div-add-mod' x p))

abbrev two : ℕ → ℕ
two w = w * 2561 % 65536 / 256

abbrev four : ℕ → ℕ
four w = w * 6553601 % 4294967296 / 65536

abbrev eight_of : ℕ → ℕ
eight_of w = (bit_and w 4294967295 * 10000 % 18446744073709551616 + w / 4294967296) % 18446744073709551616

pub twos_are : (n : ℕ) (xs : List ℕ) → length xs ≡ n + n → AllBelow 10 xs → map two (digits_l 65536 n (number_l 256 xs)) ≡ in_pairs 10 xs
twos_are zero [] long small = refl
twos_are zero (x ∷ xs) long small = absurd (omega arith)
twos_are (suc n) [] long small = absurd (omega arith)
twos_are (suc n) (x ∷ []) long small = absurd (omega arith)
twos_are (suc n) (x ∷ y ∷ xs) long small =
    let r : ℕ = number_l 256 xs in
    let hx : x < 10 = small.0 in
    let hy : y < 10 = small.1.0 in
    let low : two ((x + 256 * (y + 256 * r)) % 65536) ≡ x * 10 + y = omega (arith, hx, hy) in
    let high : (x + 256 * (y + 256 * r)) / 65536 ≡ r = omega (arith, hx, hy) in
    (λ i. low i ∷ map two (digits_l 65536 n (high i))) ∙ ap (λ l. (x * 10 + y) ∷ l) (twos_are n xs (omega arith) small.1.1)

pub fours_are : (n : ℕ) (xs : List ℕ) → length xs ≡ n + n → AllBelow 100 xs → map four (digits_l 4294967296 n (number_l 65536 xs)) ≡ in_pairs 100 xs
fours_are zero [] long small = refl
fours_are zero (x ∷ xs) long small = absurd (omega arith)
fours_are (suc n) [] long small = absurd (omega arith)
fours_are (suc n) (x ∷ []) long small = absurd (omega arith)
fours_are (suc n) (x ∷ y ∷ xs) long small =
    let r : ℕ = number_l 65536 xs in
    let hx : x < 100 = small.0 in
    let hy : y < 100 = small.1.0 in
    let low : four ((x + 65536 * (y + 65536 * r)) % 4294967296) ≡ x * 100 + y = omega (arith, hx, hy) in
    let high : (x + 65536 * (y + 65536 * r)) / 4294967296 ≡ r = omega (arith, hx, hy) in
    (λ i. low i ∷ map four (digits_l 4294967296 n (high i))) ∙ ap (λ l. (x * 100 + y) ∷ l) (fours_are n xs (omega arith) small.1.1)

pub eights_are : (n : ℕ) (xs : List ℕ) → length xs ≡ n + n → AllBelow 10000 xs → map eight_of (digits_l 18446744073709551616 n (number_l 4294967296 xs)) ≡ in_pairs 10000 xs
eights_are zero [] long small = refl
eights_are zero (x ∷ xs) long small = absurd (omega arith)
eights_are (suc n) [] long small = absurd (omega arith)
eights_are (suc n) (x ∷ []) long small = absurd (omega arith)
eights_are (suc n) (x ∷ y ∷ xs) long small =
    let r : ℕ = number_l 4294967296 xs in
    let hx : x < 10000 = small.0 in
    let hy : y < 10000 = small.1.0 in
    let w : ℕ = (x + 4294967296 * (y + 4294967296 * r)) % 18446744073709551616 in
    let masked : bit_and w 4294967295 ≡ w % 4294967296 = and_mask w 32 in
    let low : eight_of w ≡ x * 10000 + y = omega (arith, hx, hy, masked) in
    let high : (x + 4294967296 * (y + 4294967296 * r)) / 18446744073709551616 ≡ r = omega (arith, hx, hy) in
    (λ i. low i ∷ map eight_of (digits_l 18446744073709551616 n (high i))) ∙ ap (λ l. (x * 10000 + y) ∷ l) (eights_are n xs (omega arith) small.1.1)

-- numbers that are that small fit their lanes
pub number_below : (p b : ℕ) (xs : List ℕ) → b ≤ p → AllBelow b xs → number_l p xs < p ^ length xs
number_below p b [] le small = omega (arith, native.Mathlib.Nat.pow-zero p)
number_below p b (x ∷ xs) le small =
    let rest = number_below p b xs le small.1 in
    let one : x < p = omega (arith, le, small.0) in
    let step = pow-suc p (length xs) in
    omega (arith, step, one, Rattle.std.proofs.Common.mul-le-mul_left p rest)

pub below_hundred : (xs : List ℕ) → AllBelow 10 xs → AllBelow 100 (in_pairs 10 xs)
below_hundred [] small = tt
below_hundred (x ∷ []) small = tt
below_hundred (x ∷ y ∷ xs) small = (omega (arith, small.0, small.1.0), below_hundred xs small.1.1)

pub below_ten_thousand : (xs : List ℕ) → AllBelow 100 xs → AllBelow 10000 (in_pairs 100 xs)
below_ten_thousand [] small = tt
below_ten_thousand (x ∷ []) small = tt
below_ten_thousand (x ∷ y ∷ xs) small = (omega (arith, small.0, small.1.0), below_ten_thousand xs small.1.1)

pub below_hundred_million : (xs : List ℕ) → AllBelow 10000 xs → AllBelow 100000000 (in_pairs 10000 xs)
below_hundred_million [] small = tt
below_hundred_million (x ∷ []) small = tt
below_hundred_million (x ∷ y ∷ xs) small = (omega (arith, small.0, small.1.0), below_hundred_million xs small.1.1)

pub below_at : (b : ℕ) (xs : List ℕ) (i : ℕ) → 0 < b → AllBelow b xs → get_or xs i 0 < b
below_at b [] i some small = some
below_at b (x ∷ xs) zero some small = small.0
below_at b (x ∷ xs) (suc i) some small = below_at b xs i some small.1

-- ---- digits at the end of sixteen lanes

abbrev places : List ℕ
places = 128 ∷ 128 ∷ 128 ∷ 128 ∷ 128 ∷ 128 ∷ 128 ∷ 128 ∷ 128 ∷ 128 ∷ 128 ∷ 128 ∷ 128 ∷ 128 ∷ 128 ∷ 128 ∷ 0 ∷ 1 ∷ 2 ∷ 3 ∷ 4 ∷ 5 ∷ 6 ∷ 7 ∷ 8 ∷ 9 ∷ 10 ∷ 11 ∷ 12 ∷ 13 ∷ 14 ∷ 15 ∷ []

abbrev places_of : ℕ → List ℕ
places_of d = chunk 0 16 (take (32 - d) (drop d places))

abbrev pub moved : List ℕ → ℕ → List ℕ
moved lanes d = swz_l w8 16 lanes 0 (places_of d)

pub places_ok : (d : ℕ) → d ≤ 16 → SwzOk w8 16 16 0 (places_of d)
places_ok d few = each (λ k. SwzOk w8 16 16 0 (places_of k)) 17 d
    (search rules, (search rules, (search rules, (search rules, (search rules, (search rules, (search rules, (search rules, (search rules, (search rules, (search rules, (search rules, (search rules, (search rules, (search rules, (search rules, (search rules, tt))))))))))))))))) (omega arith)

pub moved_value : (lanes : List ℕ) (d : ℕ) → length lanes ≡ 16 → d ≤ 16 → sixteen_value (moved lanes d) ≡ number_of lanes d
moved_value lanes d long few =
    spelled (λ l. sixteen_value (moved l d) ≡ number_of l d) 16
    (λ f. each (λ k. sixteen_value (moved (listed f 16) k) ≡ number_of (listed f 16) k) 17 d
    (omega arith, (omega arith, (omega arith, (omega arith, (omega arith, (omega arith, (omega arith, (omega arith, (omega arith, (omega arith, (omega arith, (omega arith, (omega arith, (omega arith, (omega arith, (omega arith, (omega arith, tt))))))))))))))))) (omega arith)) lanes long

abbrev BelowTen : List ℕ → ℕ → Type 0
BelowTen lanes d = AreDigits lanes d → AllBelow 10 (moved lanes d)

pub moved_digits : (lanes : List ℕ) (d : ℕ) → length lanes ≡ 16 → d ≤ 16 → BelowTen lanes d
moved_digits lanes d long few =
    spelled (λ l. BelowTen l d) 16
    (λ f. each (BelowTen (listed f 16)) 17 d
    (λ h. (h 0 (omega arith), (h 1 (omega arith), (h 2 (omega arith), (h 3 (omega arith), (h 4 (omega arith), (h 5 (omega arith), (h 6 (omega arith), (h 7 (omega arith), (h 8 (omega arith), (h 9 (omega arith), (h 10 (omega arith), (h 11 (omega arith), (h 12 (omega arith), (h 13 (omega arith), (h 14 (omega arith), (h 15 (omega arith), tt)))))))))))))))), (λ h. (omega arith, (h 0 (omega arith), (h 1 (omega arith), (h 2 (omega arith), (h 3 (omega arith), (h 4 (omega arith), (h 5 (omega arith), (h 6 (omega arith), (h 7 (omega arith), (h 8 (omega arith), (h 9 (omega arith), (h 10 (omega arith), (h 11 (omega arith), (h 12 (omega arith), (h 13 (omega arith), (h 14 (omega arith), tt)))))))))))))))), (λ h. (omega arith, (omega arith, (h 0 (omega arith), (h 1 (omega arith), (h 2 (omega arith), (h 3 (omega arith), (h 4 (omega arith), (h 5 (omega arith), (h 6 (omega arith), (h 7 (omega arith), (h 8 (omega arith), (h 9 (omega arith), (h 10 (omega arith), (h 11 (omega arith), (h 12 (omega arith), (h 13 (omega arith), tt)))))))))))))))), (λ h. (omega arith, (omega arith, (omega arith, (h 0 (omega arith), (h 1 (omega arith), (h 2 (omega arith), (h 3 (omega arith), (h 4 (omega arith), (h 5 (omega arith), (h 6 (omega arith), (h 7 (omega arith), (h 8 (omega arith), (h 9 (omega arith), (h 10 (omega arith), (h 11 (omega arith), (h 12 (omega arith), tt)))))))))))))))), (λ h. (omega arith, (omega arith, (omega arith, (omega arith, (h 0 (omega arith), (h 1 (omega arith), (h 2 (omega arith), (h 3 (omega arith), (h 4 (omega arith), (h 5 (omega arith), (h 6 (omega arith), (h 7 (omega arith), (h 8 (omega arith), (h 9 (omega arith), (h 10 (omega arith), (h 11 (omega arith), tt)))))))))))))))), (λ h. (omega arith, (omega arith, (omega arith, (omega arith, (omega arith, (h 0 (omega arith), (h 1 (omega arith), (h 2 (omega arith), (h 3 (omega arith), (h 4 (omega arith), (h 5 (omega arith), (h 6 (omega arith), (h 7 (omega arith), (h 8 (omega arith), (h 9 (omega arith), (h 10 (omega arith), tt)))))))))))))))), (λ h. (omega arith, (omega arith, (omega arith, (omega arith, (omega arith, (omega arith, (h 0 (omega arith), (h 1 (omega arith), (h 2 (omega arith), (h 3 (omega arith), (h 4 (omega arith), (h 5 (omega arith), (h 6 (omega arith), (h 7 (omega arith), (h 8 (omega arith), (h 9 (omega arith), tt)))))))))))))))), (λ h. (omega arith, (omega arith, (omega arith, (omega arith, (omega arith, (omega arith, (omega arith, (h 0 (omega arith), (h 1 (omega arith), (h 2 (omega arith), (h 3 (omega arith), (h 4 (omega arith), (h 5 (omega arith), (h 6 (omega arith), (h 7 (omega arith), (h 8 (omega arith), tt)))))))))))))))), (λ h. (omega arith, (omega arith, (omega arith, (omega arith, (omega arith, (omega arith, (omega arith, (omega arith, (h 0 (omega arith), (h 1 (omega arith), (h 2 (omega arith), (h 3 (omega arith), (h 4 (omega arith), (h 5 (omega arith), (h 6 (omega arith), (h 7 (omega arith), tt)))))))))))))))), (λ h. (omega arith, (omega arith, (omega arith, (omega arith, (omega arith, (omega arith, (omega arith, (omega arith, (omega arith, (h 0 (omega arith), (h 1 (omega arith), (h 2 (omega arith), (h 3 (omega arith), (h 4 (omega arith), (h 5 (omega arith), (h 6 (omega arith), tt)))))))))))))))), (λ h. (omega arith, (omega arith, (omega arith, (omega arith, (omega arith, (omega arith, (omega arith, (omega arith, (omega arith, (omega arith, (h 0 (omega arith), (h 1 (omega arith), (h 2 (omega arith), (h 3 (omega arith), (h 4 (omega arith), (h 5 (omega arith), tt)))))))))))))))), (λ h. (omega arith, (omega arith, (omega arith, (omega arith, (omega arith, (omega arith, (omega arith, (omega arith, (omega arith, (omega arith, (omega arith, (h 0 (omega arith), (h 1 (omega arith), (h 2 (omega arith), (h 3 (omega arith), (h 4 (omega arith), tt)))))))))))))))), (λ h. (omega arith, (omega arith, (omega arith, (omega arith, (omega arith, (omega arith, (omega arith, (omega arith, (omega arith, (omega arith, (omega arith, (omega arith, (h 0 (omega arith), (h 1 (omega arith), (h 2 (omega arith), (h 3 (omega arith), tt)))))))))))))))), (λ h. (omega arith, (omega arith, (omega arith, (omega arith, (omega arith, (omega arith, (omega arith, (omega arith, (omega arith, (omega arith, (omega arith, (omega arith, (omega arith, (h 0 (omega arith), (h 1 (omega arith), (h 2 (omega arith), tt)))))))))))))))), (λ h. (omega arith, (omega arith, (omega arith, (omega arith, (omega arith, (omega arith, (omega arith, (omega arith, (omega arith, (omega arith, (omega arith, (omega arith, (omega arith, (omega arith, (h 0 (omega arith), (h 1 (omega arith), tt)))))))))))))))), (λ h. (omega arith, (omega arith, (omega arith, (omega arith, (omega arith, (omega arith, (omega arith, (omega arith, (omega arith, (omega arith, (omega arith, (omega arith, (omega arith, (omega arith, (omega arith, (h 0 (omega arith), tt)))))))))))))))), (λ h. (omega arith, (omega arith, (omega arith, (omega arith, (omega arith, (omega arith, (omega arith, (omega arith, (omega arith, (omega arith, (omega arith, (omega arith, (omega arith, (omega arith, (omega arith, (omega arith, tt)))))))))))))))), tt))))))))))))))))) (omega arith)) lanes long

-- ---- bytes less the digit zero

abbrev pub minus : ℕ → ℕ → ℕ
minus a b = (a + (256 - b)) % 256

pub less : (bs : List ℕ) (j : ℕ) → length bs ≡ 16 → j < 16 → get_or bs j 0 < 256 → get_or (zip2 minus bs (replicate 16 48)) j 0 < 10 → get_or bs j 0 ≡ get_or (zip2 minus bs (replicate 16 48)) j 0 + 48
less bs j long within byte small =
    let is : get_or (zip2 minus bs (replicate 16 48)) j 0 ≡ minus (get_or bs j 0) 48 =
    get_or-zip2 minus bs (replicate 16 48) j 0 0 0 (omega (arith, long, within)) within ∙ ap (minus (get_or bs j 0)) (get_or-replicate 16 j 48 0 within) in
    omega (arith, is, small, byte)

pub less_long : (bs : List ℕ) → length bs ≡ 16 → length (zip2 minus bs (replicate 16 48)) ≡ 16
less_long bs long = length-zip2 minus bs (replicate 16 48) long ∙ long

-- ---- how many digits come first

-- the lowest bit that is set is at most the sixteenth, and below it no bit is set
lowest_is : (m : ℕ) → m < 2 ^ 64 → (count_trailing_zeros 64 (bit_or m 65536) ≤ 16) × ((j : ℕ) → j < count_trailing_zeros 64 (bit_or m 65536) → bit_at m j ≡ 0)
lowest_is m small =
    let n : ℕ = bit_or m 65536 in
    let either : max (bit_at m 16) 1 ≡ 1 = omega (arith, bit_at-lt m 8) in
    let set : bit_at n 16 ≡ 1 = bit_at_or m 65536 16 ∙ either in
    let some : 0 < n = omega (arith, set) in
    let z = bit_at-trailing_zeros w64 n some (or_lt 64 m 65536 small (omega arith)) in
    let few : count_trailing_zeros 64 n ≤ 16 =
    elim (cases_lt 16 (count_trailing_zeros 64 n)) [ inl a ↦ let clear : bit_at n 16 ≡ 0 = z.2 16 a in absurd (omega (arith, set, clear)) | inr a ↦ a ] in
    (few, λ j before. let none : max (bit_at m j) (bit_at 65536 j) ≡ 0 = sym (bit_at_or m 65536 j) ∙ z.2 j before in omega (arith, none))

abbrev bit : Bool → ℕ
bit b = cond b 1 0

below_ten : (x : ℕ) → bit (leb 10 x) ≡ 0 → x < 10
below_ten x none = elim (cases_Bool (leb 10 x)) [ inl a ↦ absurd (let one : bit (leb 10 x) ≡ 1 = ap bit a in omega (arith, one, none)) | inr a ↦ leb-false 10 x a ]

-- a bit for each lane that is no digit
abbrev pub others : List ℕ → ℕ
others lanes = mask_l (map (top 7) (zip2 (λ a b. cond (leb a b) 255 0) (replicate 16 10) lanes)) % 2 ^ 64

pub ahead : (lanes : List ℕ) → length lanes ≡ 16 → (count_trailing_zeros 64 (bit_or (others lanes) 65536) ≤ 16) × AreDigits lanes (count_trailing_zeros 64 (bit_or (others lanes) 65536))
ahead lanes long =
    let ms : List Bool = map (λ x. leb 10 x) lanes in
    let is : map (top 7) (zip2 (λ a b. cond (leb a b) 255 0) (replicate 16 10) lanes) ≡ ms = tops_compared w8 leb (replicate 16 10) lanes ∙ zip2_splat_left leb 10 16 lanes long in
    let few : length ms ≤ 64 = omega (arith, length-map lanes (λ x. leb 10 x), long) in
    let mask : others lanes ≡ mask_l ms = ap (λ l. mask_l l % 2 ^ 64) is ∙ mask_l-mod ms 64 few in
    let low = lowest_is (others lanes) (omega arith) in (
      low.0,
      λ j before.
          let clear : bit (get_or ms j false) ≡ 0 = sym (bit_mask_l ms j) ∙ ap (λ m. bit_at m j) (sym mask) ∙ low.1 j before in
          let within : j < length lanes = omega (arith, before, low.0, long) in
          below_ten (get_or lanes j 0) (ap bit (sym (get_or-map (λ x. leb 10 x) lanes j 0 false within)) ∙ clear),
    )

-- ---- their text

pub number_small : (ls : List ℕ) (d : ℕ) → AreDigits ls d → number_of ls d < 10 ^ d
number_small ls zero digits = omega (arith, native.Mathlib.Nat.pow-zero 10)
number_small ls (suc d) digits =
    let before = number_small ls d (λ j l. digits j (omega arith)) in
    subst (λ k. number_of ls (suc d) < 10 ^ k) (omega arith) (digit_more (number_of ls d) (get_or ls d 0) d before (digits d (omega arith)))

record IsText (bs : List ℕ) (i n : ℕ) : Type 0 where
  is : take i bs ≡ decimal n
  some : 0 < n

-- the first of at most sixteen digits are the text of their number, where the first digit is not zero
text_to : (bs ls : List ℕ) (d i : ℕ) → d ≤ 16 → 16 ≤ length bs → AreLessZero ls bs → AreDigits ls d → (get_or bs 0 0 ≡ 48 → ⊥) → suc i ≤ d → IsText bs (suc i) (number_of ls (suc i))
text_to bs ls d zero few long less_so digits apart within =
    let small : get_or ls 0 0 < 10 = digits 0 (omega arith) in
    let is : get_or bs 0 0 ≡ get_or ls 0 0 + 48 = less_so 0 (omega arith) small in
    let some : 0 < get_or ls 0 0 = elim (cases_lt 0 (get_or ls 0 0)) [ inl a ↦ a | inr a ↦ absurd (apart (omega (arith, is, a))) ] in
    record {
      is = first_digit bs (omega (arith, long)) (omega (arith, is)) (omega (arith, is, small)) ∙ ap decimal (omega (arith, is));
      some = omega (arith, some);
    }
text_to bs ls d (suc i) few long less_so digits apart within =
    let before = text_to bs ls d i few long less_so digits apart (omega arith) in
    let n : ℕ = number_of ls (suc i) in
    let low : n < 10 ^ 16 = below_digits n (suc i) 16 (number_small ls (suc i) (λ j l. digits j (omega arith))) (omega arith) in
    let small : get_or ls (suc i) 0 < 10 = digits (suc i) (omega arith) in
    let is : get_or bs (suc i) 0 ≡ get_or ls (suc i) 0 + 48 = less_so (suc i) (omega arith) small in
    let some : 0 < n = before.some in
    record {
      is = digit_then bs (suc i) (suc (suc i)) n (get_or bs (suc i) 0) (n * 10 + get_or ls (suc i) 0) before.is (omega arith) (omega (arith, long)) some (omega (arith, low)) refl (omega (arith, is), omega (arith, is, small)) (omega (arith, is));
      some = omega (arith, some);
    }

pub number_text : (bs ls : List ℕ) (d : ℕ) → d ≤ 16 → 16 ≤ length bs → AreLessZero ls bs → AreDigits ls d → (get_or bs 0 0 ≡ 48 → ⊥) → 0 < number_of ls d → take d bs ≡ decimal (number_of ls d)
number_text bs ls zero few long less_so digits apart some = absurd (omega (arith, some))
number_text bs ls (suc i) few long less_so digits apart some = (text_to bs ls (suc i) i few long less_so digits apart (omega arith)).is

pub short_is : (bs ls : List ℕ) (d n : ℕ) → d ≤ 16 → 16 ≤ length bs → AreLessZero ls bs → AreDigits ls d → (get_or bs 0 0 ≡ 48 → ⊥) → n ≡ number_of ls d → IsShort bs n d
short_is bs ls d n few long less_so digits apart is =
    record {
      is_text = λ some. number_text bs ls d few long less_so digits apart (omega (arith, some, is)) ∙ ap decimal (sym is);
      few = few;
      small = let below : number_of ls d < 10 ^ 16 = below_digits (number_of ls d) d 16 (number_small ls d digits) few in omega (arith, below, is);
    }

-- ---- bytes behind a place

abbrev shifts : List ℕ
shifts = 0 ∷ 1 ∷ 2 ∷ 3 ∷ 4 ∷ 5 ∷ 6 ∷ 7 ∷ 8 ∷ 9 ∷ 10 ∷ 11 ∷ 12 ∷ 13 ∷ 14 ∷ 15 ∷ 128 ∷ 128 ∷ 128 ∷ 128 ∷ 128 ∷ 128 ∷ 128 ∷ 128 ∷ 128 ∷ 128 ∷ 128 ∷ 128 ∷ 128 ∷ 128 ∷ 128 ∷ 128 ∷ []

abbrev shifts_of : ℕ → List ℕ
shifts_of k = chunk 0 16 (take (32 - k) (drop k shifts))

pub shifts_ok : (k : ℕ) → k ≤ 16 → SwzOk w8 16 16 0 (shifts_of k)
shifts_ok k few = each (λ m. SwzOk w8 16 16 0 (shifts_of m)) 17 k
    (search rules, (search rules, (search rules, (search rules, (search rules, (search rules, (search rules, (search rules, (search rules, (search rules, (search rules, (search rules, (search rules, (search rules, (search rules, (search rules, (search rules, tt))))))))))))))))) (omega arith)

abbrev shifted : List ℕ → ℕ → List ℕ
shifted lanes k = swz_l w8 16 lanes 0 (shifts_of k)

shifted_is : (lanes : List ℕ) (k j : ℕ) → length lanes ≡ 16 → k ≤ 16 → j < 16 → get_or (shifted lanes k) j 0 ≡ get_or lanes (k + j) 0
shifted_is lanes k j long few within =
    spelled (λ l. get_or (shifted l k) j 0 ≡ get_or l (k + j) 0) 16
    (λ f. each (λ n. get_or (shifted (listed f 16) k) n 0 ≡ get_or (listed f 16) (k + n) 0) 16 j
    (each (λ m. Each (λ n. get_or (shifted (listed f 16) m) n 0 ≡ get_or (listed f 16) (m + n) 0) 16) 17 k
    ((refl, (refl, (refl, (refl, (refl, (refl, (refl, (refl, (refl, (refl, (refl, (refl, (refl, (refl, (refl, (refl, tt)))))))))))))))), ((refl, (refl, (refl, (refl, (refl, (refl, (refl, (refl, (refl, (refl, (refl, (refl, (refl, (refl, (refl, (refl, tt)))))))))))))))), ((refl, (refl, (refl, (refl, (refl, (refl, (refl, (refl, (refl, (refl, (refl, (refl, (refl, (refl, (refl, (refl, tt)))))))))))))))), ((refl, (refl, (refl, (refl, (refl, (refl, (refl, (refl, (refl, (refl, (refl, (refl, (refl, (refl, (refl, (refl, tt)))))))))))))))), ((refl, (refl, (refl, (refl, (refl, (refl, (refl, (refl, (refl, (refl, (refl, (refl, (refl, (refl, (refl, (refl, tt)))))))))))))))), ((refl, (refl, (refl, (refl, (refl, (refl, (refl, (refl, (refl, (refl, (refl, (refl, (refl, (refl, (refl, (refl, tt)))))))))))))))), ((refl, (refl, (refl, (refl, (refl, (refl, (refl, (refl, (refl, (refl, (refl, (refl, (refl, (refl, (refl, (refl, tt)))))))))))))))), ((refl, (refl, (refl, (refl, (refl, (refl, (refl, (refl, (refl, (refl, (refl, (refl, (refl, (refl, (refl, (refl, tt)))))))))))))))), ((refl, (refl, (refl, (refl, (refl, (refl, (refl, (refl, (refl, (refl, (refl, (refl, (refl, (refl, (refl, (refl, tt)))))))))))))))), ((refl, (refl, (refl, (refl, (refl, (refl, (refl, (refl, (refl, (refl, (refl, (refl, (refl, (refl, (refl, (refl, tt)))))))))))))))), ((refl, (refl, (refl, (refl, (refl, (refl, (refl, (refl, (refl, (refl, (refl, (refl, (refl, (refl, (refl, (refl, tt)))))))))))))))), ((refl, (refl, (refl, (refl, (refl, (refl, (refl, (refl, (refl, (refl, (refl, (refl, (refl, (refl, (refl, (refl, tt)))))))))))))))), ((refl, (refl, (refl, (refl, (refl, (refl, (refl, (refl, (refl, (refl, (refl, (refl, (refl, (refl, (refl, (refl, tt)))))))))))))))), ((refl, (refl, (refl, (refl, (refl, (refl, (refl, (refl, (refl, (refl, (refl, (refl, (refl, (refl, (refl, (refl, tt)))))))))))))))), ((refl, (refl, (refl, (refl, (refl, (refl, (refl, (refl, (refl, (refl, (refl, (refl, (refl, (refl, (refl, (refl, tt)))))))))))))))), ((refl, (refl, (refl, (refl, (refl, (refl, (refl, (refl, (refl, (refl, (refl, (refl, (refl, (refl, (refl, (refl, tt)))))))))))))))), ((refl, (refl, (refl, (refl, (refl, (refl, (refl, (refl, (refl, (refl, (refl, (refl, (refl, (refl, (refl, (refl, tt)))))))))))))))), tt))))))))))))))))) (omega arith)) within) lanes long

pub shifted_long : (lanes : List ℕ) (k : ℕ) → k ≤ 16 → length (shifted lanes k) ≡ 16
shifted_long lanes k few =
    length-swz_l w8 16 lanes 0 (shifts_of k) ∙ each (λ m. length (shifts_of m) ≡ 16) 17 k
    (refl, (refl, (refl, (refl, (refl, (refl, (refl, (refl, (refl, (refl, (refl, (refl, (refl, (refl, (refl, (refl, (refl, tt))))))))))))))))) (omega arith)

pub sixteen_is : (bs : List ℕ) (place j : ℕ) → 16 ≤ length bs → place ≤ length bs → length bs ≤ place + 16 → j < 16
    → get_or (shifted (take 16 (drop (length bs - 16) bs)) (place - (length bs - 16))) j 0 ≡ get_or bs (place + j) 0
sixteen_is bs place j long inside near within =
    let start : ℕ = length bs - 16 in
    let end : List ℕ = drop start bs in
    let whole : take 16 end ≡ end = take_all 16 end (omega (arith, length-drop start bs, long)) in
    let at : start + (place - start + j) ≡ place + j = omega (arith, near, long, inside) in
    ap (λ l. get_or (shifted l (place - start)) j 0) whole
    ∙ shifted_is end (place - start) j (omega (arith, length-drop start bs, long)) (omega (arith, inside, near, long)) within
    ∙ get_or-drop start bs (place - start + j) 0 ∙ ap (λ k. get_or bs k 0) at

-- digits that are found among sixteen bytes are found in the bytes that these are
pub late_is : (bs codes : List ℕ) (place n d : ℕ) → length codes ≡ 16 → place < length bs → length bs ≤ place + 15 → ((j : ℕ) → j < 16 → get_or codes j 0 ≡ get_or bs (place + j) 0)
    → IsShort codes n d → ((j : ℕ) → j < d → 48 ≤ get_or codes j 0) → 0 < n → (place + d ≤ length bs) × (take d (drop place bs) ≡ decimal n)
late_is bs codes place n d long inside near same short digits some =
    let rest : List ℕ = drop place bs in
    let room : ℕ = length bs - place in
    let few : d ≤ room = elim (cases_lt room d) [
      | inl a ↦
          let high : 48 ≤ get_or codes room 0 = digits room a in
          let is : get_or codes room 0 ≡ get_or bs (place + room) 0 = same room (omega (arith, a, short.few, near, inside)) in
          let none : get_or bs (place + room) 0 ≡ 0 = get_or_past bs (place + room) 0 (omega (arith, inside)) in
          absurd (omega (arith, high, is, none))
      | inr a ↦ a
    ] in
    let equal : take d rest ≡ take d codes =
    ext_get_or 0 (take d rest) (take d codes) (length-take d rest ∙ omega (arith, few, length-drop place bs, short.few, long) ∙ sym (length-take d codes))
    (λ i l.
    let below : i < d = omega (arith, l, length-take d rest) in
    get_or-take d rest i 0 below ∙ get_or-drop place bs i 0 ∙ sym (same i (omega (arith, below, short.few))) ∙ sym (get_or-take d codes i 0 below)) in
    (omega (arith, few, inside), equal ∙ short.is_text some)

pub late_rest : (bs : List ℕ) (place n d : ℕ) → place + d ≤ length bs → take d (drop place bs) ≡ decimal n → drop place bs ≡ decimal n ++ take (length bs - (place + d)) (drop (place + d) bs)
late_rest bs place n d within is_text =
    let behind : drop d (drop place bs) ≡ take (length bs - (place + d)) (drop (place + d) bs) = drop-drop d place bs ∙ sym (take_all (length bs - (place + d)) (drop (place + d) bs) (omega (arith, length-drop (place + d) bs))) in
    sym (take-append-drop d (drop place bs)) ∙ (λ i. is_text i ++ behind i)

-- what sixteen bytes begin with is what the bytes do that they are of
pub short_of_more : (bs : List ℕ) (n d : ℕ) → 16 ≤ length bs → IsShort (take 16 bs) n d → IsShort bs n d
short_of_more bs n d long short =
    let equal : take d (take 16 bs) ≡ take d bs =
    ext_get_or 0 (take d (take 16 bs)) (take d bs) (omega (arith, length-take d (take 16 bs), length-take d bs, length-take 16 bs, short.few, long))
    (λ i l.
    let below : i < d = omega (arith, l, length-take d (take 16 bs)) in
    get_or-take d (take 16 bs) i 0 below ∙ get_or-take 16 bs i 0 (omega (arith, below, short.few)) ∙ sym (get_or-take d bs i 0 below)) in
    record { is_text = λ some. sym equal ∙ short.is_text some; few = short.few; small = short.small }
