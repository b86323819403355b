-- Plain bytes of a string, some at a time by a vector.
use Rattle.std.proofs.Common.{◌≡◌, ◌∙◌, ℕ, zero, suc, ◌+◌, ◌-◌, ◌%◌, ◌^◌, ◌<◌, ◌≤◌, Bool, true, false, cond, eqb, leb, List, [], ◌∷◌, map, length, get_or, take, replicate, Fits, w8, w64, refl, sym, ap, ap₂, subst, arith, inl, inr, max}
use Rattle.std.specs.Prelude.{bit_or, ◌||◌}
use Rattle.std.specs.Int.{bit_at}
use Rattle.std.specs.List.{list_all}
use Rattle.std.proofs.lemmas.Bool.{agree_below, agree_below_at, cases_lt, cases_Bool}
use Rattle.std.proofs.lemmas.List.{get_or-map, length-map, length-take, get_or-take}
use Rattle.std.proofs.lemmas.List.Elements.{All-from_get_or}
use Rattle.std.proofs.lemmas.List.Sums.{list_all-from_AllPass}
use Rattle.std.proofs.lemmas.Nat.{or_lt}
use Rattle.std.proofs.lemmas.Nat.Bits.{bit_at_or, bit_at-lt, bit_at-trailing_zeros}
use Rattle.std.proofs.lemmas.Simd.{zip2_splat, map-map, mask_l-mod, bit_mask_l, length-chunk, get_or-chunk}
use lib.Lanes.{zip2, top, mask_l, chunk}
use lib.Count.{count_trailing_zeros}
use Rattle.qa_scan.specs.Lexes.{is_plain}
use Rattle.qa_scan.specs.Strings.{ArePlain, IsPart}
use Rattle.qa_scan.proofs.Lanes.{minus}
use Rattle.qa_scan.proofs.Passing.{part_nothing, part_plain}

-- ---- one after another

pub none_yet : (bytes : List ℕ) (i : ℕ) → i ≤ length bytes → ArePlain bytes i i
none_yet bytes i within = record { after = omega arith; within = within; plain = λ k from to. absurd (omega arith) }

pub one_more : (bytes : List ℕ) (i j : ℕ) → ArePlain bytes i j → j < length bytes → is_plain (get_or bytes j 0) ≡ true → ArePlain bytes i (j + 1)
one_more bytes i j before within is = record {
  after = omega (arith, before.after);
  within = omega arith;
  plain = λ k from to. elim (cases_lt k j) [
    | inl a ↦ before.plain k from a
    | inr a ↦ let same : j ≡ k = omega (arith, a, to) in subst (λ n. is_plain (get_or bytes n 0) ≡ true) same is
  ];
}

pub plain_then : {bytes : List ℕ} {i j k : ℕ} → ArePlain bytes i j → ArePlain bytes j k → ArePlain bytes i k
plain_then {bytes} {i} {j} {k} first second = record {
  after = omega (arith, first.after, second.after);
  within = second.within;
  plain = λ n from to. elim (cases_lt n j) [ inl a ↦ first.plain n from a | inr a ↦ second.plain n a to ];
}

-- ---- the text

pub all_plain : (bytes : List ℕ) (i : ℕ) → ArePlain bytes 0 i → list_all is_plain (take i bytes) ≡ true
all_plain bytes i are =
    list_all-from_AllPass is_plain (take i bytes)
    (All-from_get_or (λ x. is_plain x ≡ true) (take i bytes) 0
    (λ k inside. let below : k < i = omega (arith, inside, length-take i bytes) in subst (λ x. is_plain x ≡ true) (sym (get_or-take i bytes k 0 below)) (are.plain k (omega arith) below)))

part_run : (bytes : List ℕ) (i n : ℕ) → i + n ≤ length bytes → ((k : ℕ) → i ≤ k → k < i + n → is_plain (get_or bytes k 0) ≡ true) → IsPart bytes i (i + n)
part_run bytes i zero within plain = let none : i ≡ i + 0 = omega arith in subst (IsPart bytes i) none (part_nothing bytes i (omega (arith, within)))
part_run bytes i (suc n) within plain =
    let next : i + n + 1 ≡ i + suc n = omega arith in
    subst (IsPart bytes i) next
    (part_plain bytes i (i + n) (part_run bytes i n (omega (arith, within)) (λ k from to. plain k from (omega (arith, to)))) (omega (arith, within)) (plain (i + n) (omega arith) (omega arith)))

pub plain_part : (bytes : List ℕ) (i j : ℕ) → ArePlain bytes i j → IsPart bytes i j
plain_part bytes i j are =
    let n : ℕ = j - i in
    let end : i + n ≡ j = omega (arith, are.after) in
    subst (IsPart bytes i) end (part_run bytes i n (omega (arith, are.after, are.within)) (λ k from to. are.plain k from (omega (arith, to, are.after))))

-- ---- lanes

abbrev hit : ℕ → ℕ → ℕ
hit a b = cond (eqb a b) 255 0

abbrev least : ℕ → ℕ → ℕ
least a b = cond (leb a b) 255 0

-- what a lane becomes, whose top bit is set where its byte is not plain
abbrev other : ℕ → ℕ
other x = bit_or (bit_or (hit x 34) (hit x 92)) (least 95 (minus x 32))

joined : (h : ℕ → ℕ → ℕ) (f g : ℕ → ℕ) (v : List ℕ) {a b : List ℕ} → a ≡ map f v → b ≡ map g v → zip2 h a b ≡ map (λ x. h (f x) (g x)) v
joined h f g v p q = ap₂ (zip2 h) p q ∙ both v
  where
    both : (xs : List ℕ) → zip2 h (map f xs) (map g xs) ≡ map (λ x. h (f x) (g x)) xs
    both [] = refl
    both (x ∷ xs) = ap (λ r. h (f x) (g x) ∷ r) (both xs)

splat_is : (v : List ℕ) (n y : ℕ) → length v ≡ n → replicate n y ≡ map (λ _. y) v
splat_is [] n y e = ap (λ k. replicate k y) (sym e)
splat_is (x ∷ xs) n y e = ap (λ k. replicate k y) (sym e) ∙ ap (λ r. y ∷ r) (splat_is xs (length xs) y refl)

abbrev others : ℕ → List ℕ → List ℕ
others n v = zip2 bit_or (zip2 bit_or (zip2 hit v (replicate n 34)) (zip2 hit v (replicate n 92))) (zip2 least (replicate n 95) (zip2 minus v (replicate n 32)))

others_are : (n : ℕ) (v : List ℕ) → length v ≡ n → others n v ≡ map other v
others_are n v long =
    joined bit_or _ _ v (joined bit_or _ _ v (zip2_splat hit v n 34 long) (zip2_splat hit v n 92 long)) (joined least (λ _. 95) _ v (splat_is v n 95 long) (zip2_splat minus v n 32 long))

abbrev bit : Bool → ℕ
bit b = cond b 1 0

clear_is : (b : Bool) → bit b ≡ 0 → b ≡ false
clear_is true none = absurd (omega (arith, none))
clear_is false none = refl

all_bytes : agree_below (λ x. top 7 (other x) || is_plain x) (λ _. true) 256 ≡ true
all_bytes = refl

plain_from_clear : (x : ℕ) → x < 256 → top 7 (other x) ≡ false → is_plain x ≡ true
plain_from_clear x small clear = sym (ap (λ b. b || is_plain x) clear) ∙ agree_below_at (λ y. top 7 (other y) || is_plain y) (λ _. true) 256 x all_bytes small

-- the lowest bit that is set is at most the one that the power sets, and below it the mask has none
lowest_is : (n power m : ℕ) → bit_at power n ≡ 1 → ((x : ℕ) → bit_at x n ≡ 1 → 0 < x) → m < 2 ^ 64 → power < 2 ^ 64
    → (count_trailing_zeros 64 (bit_or m power) ≤ n) × ((j : ℕ) → j < count_trailing_zeros 64 (bit_or m power) → bit_at m j ≡ 0)
lowest_is n power m is_top some small high =
    let all : ℕ = bit_or m power in
    let either : max (bit_at m n) (bit_at power n) ≡ 1 = omega (arith, bit_at-lt m n, is_top) in
    let set : bit_at all n ≡ 1 = bit_at_or m power n ∙ either in
    let z = bit_at-trailing_zeros w64 all (some all set) (or_lt 64 m power small high) in
    let few : count_trailing_zeros 64 all ≤ n =
    elim (cases_lt n (count_trailing_zeros 64 all)) [ inl a ↦ let clear : bit_at all n ≡ 0 = z.2 n a in absurd (omega (arith, set, clear)) | inr a ↦ a ] in
    (few, λ j before. let none : max (bit_at m j) (bit_at power j) ≡ 0 = sym (bit_at_or m power j) ∙ z.2 j before in omega (arith, none))

-- the mask of the lanes that are not plain
abbrev pub mask_of : ℕ → List ℕ → ℕ
mask_of n v = mask_l (map (top 7) (others n v)) % 2 ^ 64

pub plain_lanes : (n power : ℕ) (bytes : List ℕ) (place : ℕ) → place + n ≤ length bytes → ((k : ℕ) → Fits w8 (get_or bytes k 0)) → n ≤ 64
    → bit_at power n ≡ 1 → ((x : ℕ) → bit_at x n ≡ 1 → 0 < x) → power < 2 ^ 64
    → ArePlain bytes place (place + count_trailing_zeros 64 (bit_or (mask_of n (chunk place n bytes)) power))
    × (place + count_trailing_zeros 64 (bit_or (mask_of n (chunk place n bytes)) power) ≤ place + n)
plain_lanes n power bytes place room fits few is_top some high =
    let v : List ℕ = chunk place n bytes in
    let long : length v ≡ n = length-chunk place n bytes room in
    let ms : List Bool = map (λ x. top 7 (other x)) v in
    let is : map (top 7) (others n v) ≡ ms = ap (map (top 7)) (others_are n v long) ∙ map-map (top 7) other v in
    let short : length ms ≤ 64 = omega (arith, length-map v (λ x. top 7 (other x)), long, few) in
    let mask : mask_of n v ≡ mask_l ms = ap (λ l. mask_l l % 2 ^ 64) is ∙ mask_l-mod ms 64 short in
    let low = lowest_is n power (mask_of n v) is_top some (omega arith) high in
    let r : ℕ = count_trailing_zeros 64 (bit_or (mask_of n v) power) in (
      record {
        after = omega arith;
        within = omega (arith, low.0, room);
        plain = λ k from to.
            let j : ℕ = k - place in
            let before : j < r = omega (arith, from, to) in
            let back : place + j ≡ k = omega (arith, from) in
            let within : j < length v = omega (arith, before, low.0, long) in
            let clear : bit (get_or ms j false) ≡ 0 = sym (bit_mask_l ms j) ∙ ap (λ x. bit_at x j) (sym mask) ∙ low.1 j before in
            let at : get_or v j 0 ≡ get_or bytes k 0 = get_or-chunk place n bytes j 0 (omega (arith, before, low.0)) ∙ ap (λ i. get_or bytes i 0) back in
            let none : top 7 (other (get_or v j 0)) ≡ false = sym (get_or-map (λ x. top 7 (other x)) v j 0 false within) ∙ clear_is (get_or ms j false) clear in
            let small : get_or v j 0 < 256 = subst (λ x. x < 256) (sym at) (fits k).fits in
            subst (λ x. is_plain x ≡ true) at (plain_from_clear (get_or v j 0) small none);
      },
      omega (arith, low.0),
    )
