-- How many entries have no number above one, how many some ranges name, and the room for them.
use Rattle.std.proofs.Common.{◌≡◌, ℕ, zero, suc, ◌+◌, ◌-◌, ◌≤◌, ◌<◌, Bool, true, false, List, [], ◌∷◌, ◌++◌, length, get_or, drop, refl, ap, arith, inl, inr, Some, Result, Ok, Err, OnOk}
use Rattle.std.specs.Prelude.{cond, if◌then◌else◌, max, min, nat_le, nat_lt, reverse, sum_by}
use Rattle.std.specs.List.{AllByRecursion}
use Rattle.std.specs.Map.{remove_entry}
use Rattle.std.specs.BTreeMap.{is_at}
use Rattle.std.specs.Ordering.{nat_cmp}
use Rattle.std.proofs.lemmas.Bool.{cases_Bool, le-leb, leb-true}
use Rattle.std.proofs.lemmas.Bool.Decides.{nat_tests}
use Rattle.std.proofs.lemmas.List.Sorted.{IsPermutation-reverse, sum_by-IsPermutation}
use Rattle.std.proofs.lemmas.List.Sums.{sum_by-cons}
use Rattle.qa_base.specs.machine.Numbers.{AreRanges}
use Rattle.qa_sent_packets.specs.Covering.{AreApart, BeginsAbove, HasRoom, count_in, count_named, count_to, first_between, is_between, width}
use Rattle.qa_sent_packets.specs.Held.{kept_room, wanted_room}
use Rattle.qa_sent_packets.specs.Naming.{turned}
use Rattle.qa_sent_packets.specs.Unacknowledged.{EntriesRise}
use Rattle.qa_sent_packets.proofs.Entries.{between_one, high_of, in_range, leaves, low_of, removes}
use Rattle.qa_sent_packets.proofs.Parts.{each_weaker}

-- ---- how many they are

few_if : (b : Bool) (n m : ℕ) → n ≤ m → (if b then suc n else n) ≤ suc m
few_if true n m le = omega (arith, le)
few_if false n m le = omega (arith, le)

pub count_few : (hi : ℕ) (es : List (ℕ × ℕ)) → count_to hi es ≤ length es
count_few hi [] = omega arith
count_few hi (e ∷ es) = few_if (nat_le e.0 hi) (count_to hi es) (length es) (count_few hi es)

more_if : (b : Bool) (n m k : ℕ) → n ≡ m + k → (if b then suc n else n) ≡ (if b then suc m else m) + k
more_if true n m k is = omega (arith, is)
more_if false n m k is = is

pub count_append : (hi : ℕ) (es fs : List (ℕ × ℕ)) → count_to hi (es ++ fs) ≡ count_to hi es + count_to hi fs
count_append hi [] fs = omega arith
count_append hi (e ∷ es) fs = more_if (nat_le e.0 hi) (count_to hi (es ++ fs)) (count_to hi es) (count_to hi fs) (count_append hi es fs)

pub count_parts : (hi : ℕ) (es fs all : List (ℕ × ℕ)) → es ++ fs ≡ all → count_to hi all ≤ length es + count_to hi fs
count_parts hi es fs all is =
    let whole = ap (count_to hi) is in
    let parts = count_append hi es fs in
    let few = count_few hi es in
    omega (arith, whole, parts, few)

le_if : (a b : Bool) (n m : ℕ) → (a ≡ true → b ≡ true) → n ≤ m → (if a then suc n else n) ≤ (if b then suc m else m)
le_if true true n m goes le = omega (arith, le)
le_if true false n m goes le = let no : false ≡ true = goes refl in cc
le_if false true n m goes le = omega (arith, le)
le_if false false n m goes le = le

pub count_more : (low high : ℕ) (es : List (ℕ × ℕ)) → low ≤ high → count_to low es ≤ count_to high es
count_more low high [] more = omega arith
count_more low high (e ∷ es) more = le_if (nat_le e.0 low) (nat_le e.0 high) (count_to low es) (count_to high es) (λ y. le-leb e.0 high (let under = leb-true e.0 low y in omega (arith, under, more))) (count_more low high es more)

-- where they rise from a number on, no more than there are numbers
count_rising : (hi first : ℕ) (es : List (ℕ × ℕ)) → AllByRecursion (λ e. first ≤ e.0) es → EntriesRise es → count_to hi es ≤ (hi + 1) - first
count_rising hi first [] from rise = omega arith
count_rising hi first (e ∷ es) from rise = elim (cases_Bool (nat_le e.0 hi)) [
  | inl y ↦ (
      let rest = count_rising hi (e.0 + 1) es (each_weaker (λ f. e.0 < f.0) (λ f. e.0 + 1 ≤ f.0) (λ f more. omega (arith, more)) es rise.0) rise.1 in
      let under = leb-true e.0 hi y in
      let low = from.0 in
      rw y (omega (arith, rest, under, low)))
  | inr out ↦ rw out (count_rising hi first es from.1 rise.1)
]

pub count_queue : (hi first : ℕ) (es : List (ℕ × ℕ)) (x : ℕ × ℕ) → 0 < length es → x ≡ get_or es 0 x → first ≡ x.0 → EntriesRise es → count_to hi es ≤ (hi + 1) - first
count_queue hi first [] x some is first_is rise = absurd (omega (arith, some))
count_queue hi first (e ∷ es) x some is first_is rise =
    let same = ap (λ (y : ℕ × ℕ). y.0) is in
    count_rising hi first (e ∷ es) (omega (arith, same, first_is), each_weaker (λ f. e.0 < f.0) (λ f. first ≤ f.0) (λ f more. omega (arith, more, same, first_is)) es rise.0) rise

pub rising_back : (es fs : List (ℕ × ℕ)) → EntriesRise (es ++ fs) → EntriesRise fs
rising_back [] fs rise = rise
rising_back (e ∷ es) fs rise = rising_back es fs rise.1

pub zero_of : (n : ℕ) → (0 < n → ⊥) → n ≡ 0
zero_of zero none = refl
zero_of (suc n) none = absurd (none (omega arith))

pub count_none : (hi : ℕ) (es : List (ℕ × ℕ)) → length es ≡ 0 → count_to hi es ≡ 0
count_none hi [] none = refl
count_none hi (e ∷ es) none = absurd (omega (arith, none))

less_if : (b : Bool) (k n m : ℕ) → k ≡ (if b then suc n else n) → n + 1 ≡ m → k + 1 ≡ (if b then suc m else m)
less_if true k n m is rest = omega (arith, is, rest)
less_if false k n m is rest = omega (arith, is, rest)

-- ---- how many a range names

-- one that leaves
pub count_removed : (n lo hi : ℕ) (es : List (ℕ × ℕ)) (e : ℕ × ℕ) → first_between n n es ≡ Some e → lo ≤ n → n ≤ hi → count_in lo hi (remove_entry (is_at (nat_cmp n)) es) + 1 ≡ count_in lo hi es
count_removed n lo hi [] e is low high = cc
count_removed n lo hi (x ∷ es) e is low high = elim (cases_Bool (is_between n n x.0)) [
  | inl y ↦ (
      let same = between_one n x.0 y in
      let inside : is_between lo hi x.0 ≡ true = in_range lo hi x.0 (omega (arith, same, low)) (omega (arith, same, high)) in
      let gone = ap (count_in lo hi) (removes n x es y) in
      rw inside (omega (arith, gone)))
  | inr out ↦ (
      let left = ap (count_in lo hi) (leaves n x es out) in
      let rest = count_removed n lo hi es e (rw out at is) low high in
      less_if (is_between lo hi x.0) (count_in lo hi (remove_entry (is_at (nat_cmp n)) (x ∷ es))) (count_in lo hi (remove_entry (is_at (nat_cmp n)) es)) (count_in lo hi es) left rest)
]

one_or_none : (b : Bool) (n : ℕ) → n ≤ (if b then suc n else n)
one_or_none true n = omega arith
one_or_none false n = omega arith

left_if : (b : Bool) (lo hi : ℕ) (e : ℕ × ℕ) (es fs : List (ℕ × ℕ)) → count_in lo hi fs ≤ count_in lo hi es → count_in lo hi (cond b es (e ∷ fs)) ≤ count_in lo hi (e ∷ es)
left_if true lo hi e es fs fewer = one_or_none (is_between lo hi e.0) (count_in lo hi es)
left_if false lo hi e es fs fewer = le_if (is_between lo hi e.0) (is_between lo hi e.0) (count_in lo hi fs) (count_in lo hi es) (λ y. y) fewer

-- without it there are no more
pub count_left : (t : ℕ → Bool) (lo hi : ℕ) (es : List (ℕ × ℕ)) → count_in lo hi (remove_entry t es) ≤ count_in lo hi es
count_left t lo hi [] = omega arith
count_left t lo hi (e ∷ es) = left_if (t e.0) lo hi e es (remove_entry t es) (count_left t lo hi es)

-- where entries rise, no more than there are numbers in the range
in_rising : (lo hi first : ℕ) (es : List (ℕ × ℕ)) → AllByRecursion (λ e. first ≤ e.0) es → EntriesRise es → count_in lo hi es ≤ (hi + 1) - max lo first
in_rising lo hi first [] from rise = omega arith
in_rising lo hi first (e ∷ es) from rise = elim (cases_Bool (is_between lo hi e.0)) [
  | inl y ↦ (
      let rest = in_rising lo hi (e.0 + 1) es (each_weaker (λ f. e.0 < f.0) (λ f. e.0 + 1 ≤ f.0) (λ f more. omega (arith, more)) es rise.0) rise.1 in
      let low = low_of lo hi e.0 y in
      let high = high_of lo hi e.0 y in
      let begins = from.0 in
      rw y (omega (arith, rest, low, high, begins)))
  | inr out ↦ rw out (in_rising lo hi first es from.1 rise.1)
]

-- ---- how many some ranges name

pub named_fewer : (es fs ranges : List (ℕ × ℕ)) → ((lo hi : ℕ) → count_in lo hi fs ≤ count_in lo hi es) → count_named fs ranges ≤ count_named es ranges
named_fewer es fs [] left = omega arith
named_fewer es fs (r ∷ ranges) left = let here = left r.0 r.1 in let rest = named_fewer es fs ranges left in omega (arith, here, rest)

pub named_behind : (k : ℕ) (es ranges : List (ℕ × ℕ)) → count_named es (drop k ranges) ≤ count_named es ranges
named_behind zero es ranges = omega arith
named_behind (suc k) es [] = omega arith
named_behind (suc k) es (r ∷ ranges) = let rest = named_behind k es ranges in omega (arith, rest)

from_none : (es : List (ℕ × ℕ)) → AllByRecursion (λ e. 0 ≤ e.0) es
from_none [] = tt
from_none (e ∷ es) = ((omega arith), from_none es)

-- where entries rise, no more than there are numbers in the ranges
pub named_by_width : (es ranges : List (ℕ × ℕ)) → EntriesRise es → count_named es ranges ≤ sum_by width ranges
named_by_width es [] rise = omega arith
named_by_width es (r ∷ ranges) rise =
    let here = in_rising r.0 r.1 0 es (from_none es) rise in
    let rest = named_by_width es ranges rise in
    let sum = sum_by-cons width r ranges in
    omega (arith, here, rest, sum)

pub width_turned : (falling : Bool) (spans : List (ℕ × ℕ)) → sum_by width (turned falling spans) ≡ sum_by width spans
width_turned true spans = sum_by-IsPermutation width spans (reverse spans) (IsPermutation-reverse spans)
width_turned false spans = refl

-- ---- ranges that rise

low_and_in : (low lo hi q : ℕ) (n m k : ℕ) → low < lo → lo ≤ hi → n + m ≤ k → (if nat_le q low then suc n else n) + (if is_between lo hi q then suc m else m) ≤ (if nat_le q hi then suc k else k)
low_and_in low lo hi q n m k above order rest = grind (arith, nat_tests, above, order, rest)

below_and_in : (low lo hi : ℕ) (es : List (ℕ × ℕ)) → low < lo → lo ≤ hi → count_to low es + count_in lo hi es ≤ count_to hi es
below_and_in low lo hi [] above order = omega arith
below_and_in low lo hi (e ∷ es) above order = low_and_in low lo hi e.0 (count_to low es) (count_in lo hi es) (count_to hi es) above order (below_and_in low lo hi es above order)

-- what ranges name above a number
named_above : (low top : ℕ) (es ranges : List (ℕ × ℕ)) → BeginsAbove low ranges → AreApart ranges → AreRanges ranges → AllByRecursion (λ r. r.1 ≤ top) ranges → low ≤ top
    → count_to low es + count_named es ranges ≤ count_to top es
named_above low top es [] above apart order high under = let more = count_more low top es under in omega (arith, more)
named_above low top es (r ∷ ranges) above apart order high under =
    let here = below_and_in low r.0 r.1 es above order.0 in
    let rest = named_above r.1 top es ranges apart.0 apart.1 order.1 high.1 high.0 in
    omega (arith, here, rest)

in_few : (lo hi q n m : ℕ) → n ≤ m → (if is_between lo hi q then suc n else n) ≤ (if nat_le q hi then suc m else m)
in_few lo hi q n m rest = grind (arith, nat_tests, rest)

in_to : (lo hi : ℕ) (es : List (ℕ × ℕ)) → count_in lo hi es ≤ count_to hi es
in_to lo hi [] = omega arith
in_to lo hi (e ∷ es) = in_few lo hi e.0 (count_in lo hi es) (count_to hi es) (in_to lo hi es)

-- ranges that rise name no more than there are up to the end of the last
pub named_to : (top : ℕ) (es ranges : List (ℕ × ℕ)) → AreApart ranges → AreRanges ranges → AllByRecursion (λ r. r.1 ≤ top) ranges → count_named es ranges ≤ count_to top es
named_to top es [] apart order high = omega arith
named_to top es (r ∷ ranges) apart order high =
    let here = in_to r.0 r.1 es in
    let rest = named_above r.1 top es ranges apart.0 apart.1 order.1 high.1 high.0 in
    omega (arith, here, rest)

-- the last ends highest
pub last_high : (ranges : List (ℕ × ℕ)) (i : ℕ) (last : ℕ × ℕ) → AreApart ranges → AreRanges ranges → i + 1 ≡ length ranges → last ≡ get_or ranges i last → AllByRecursion (λ r. r.1 ≤ last.1) ranges
last_high [] i last apart all long is = tt
last_high (r ∷ []) zero last apart all long is = (let same = ap (λ (x : ℕ × ℕ). x.1) is in omega (arith, same), tt)
last_high (r ∷ []) (suc i) last apart all long is = absurd (omega (arith, long))
last_high (r ∷ (q ∷ ranges)) zero last apart all long is = absurd (omega (arith, long))
last_high (r ∷ (q ∷ ranges)) (suc i) last apart all long is =
    let rest = last_high (q ∷ ranges) i last apart.1 all.1 (omega (arith, long)) is in
    let above = apart.0 in
    let order = all.1.0 in
    let high = rest.0 in
    (omega (arith, above, order, high), rest)

-- ---- room

enough_if : (b : Bool) (most named count : ℕ) → count ≤ most → count ≤ named → count ≤ (if b then min most named else most)
enough_if true most named count few fewer = omega (arith, few, fewer)
enough_if false most named count few fewer = few

-- the room that is taken is enough
pub room_enough : (most named count : ℕ) → count ≤ most → count ≤ named → count ≤ wanted_room most named
room_enough most named count few fewer = enough_if (nat_lt kept_room most) most named count few fewer

pub room_here : (used room : ℕ) (es : List (ℕ × ℕ)) (r : ℕ × ℕ) (ranges : List (ℕ × ℕ)) → HasRoom used room es (r ∷ ranges) → used + count_in r.0 r.1 es ≤ room
room_here used room es r ranges fits = omega (arith, fits)

pub room_left : (used after room : ℕ) (es fs : List (ℕ × ℕ)) (r : ℕ × ℕ) (ranges : List (ℕ × ℕ)) → after ≤ used + count_in r.0 r.1 es → ((lo hi : ℕ) → count_in lo hi fs ≤ count_in lo hi es)
    → HasRoom used room es (r ∷ ranges) → HasRoom after room fs ranges
room_left used after room es fs r ranges here left fits = let fewer = named_fewer es fs ranges left in omega (arith, here, fewer, fits)

pub ok_then : {E : Type 0} (result : Result (Unit {0}) E) (A B : Type 0) → (A → B) → OnOk result A → OnOk result B
ok_then (Ok _) A B goes is = goes is
ok_then (Err _) A B goes is = tt
