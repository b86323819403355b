-- Packets that enter and leave the flight: their bytes, and that each has the size of a packet.
use Rattle.std.proofs.Common.{◌≡◌, ◌∙◌, ℕ, ◌+◌, ◌≤◌, ◌<◌, length, Bool, true, false, cond, List, [], ◌∷◌, Option, Some, None, Ordering, Less, Equal, Greater, refl, sym, ap, arith}
use Rattle.std.proofs.lemmas.List.Sums.{sum_by-cons}
use Rattle.std.proofs.lemmas.Bool.Decides.{nat_tests}
use Rattle.std.specs.BTreeMap.{insert_entry, is_at}
use Rattle.std.specs.BTreeMap.Range.{entries_between, range_contains}
use Rattle.std.specs.Prelude.{filter, find, not, slice_get}
use Rattle.std.specs.declared.ops.Bound.TheVariants.{Included}
use Rattle.std.specs.Ordering.{nat_cmp, is_eq, match_ordering}
use Rattle.qa_base.specs.values.Limits.{max_packet_size}
use Rattle.qa_convert.specs.Flights.{AreSized, flying_at, flying_bytes, is_within, without_number}
use Rattle.qa_convert.specs.declared.flight.Flying.{Flying}

bytes_more : (e : ℕ × Flying) (es : List (ℕ × Flying)) → flying_bytes (e ∷ es) ≡ e.1.size + flying_bytes es
bytes_more e es = sum_by-cons (λ (f : ℕ × Flying). f.1.size) e es

-- ---- a packet leaves

taken_if : (b : Bool) (e : ℕ × Flying) (es rest : List (ℕ × Flying)) (found : Option Flying) (s : Flying) → cond b (Some e.1) found ≡ Some s
    → (found ≡ Some s → flying_bytes rest + s.size ≡ flying_bytes es) → flying_bytes (cond b es (e ∷ rest)) + s.size ≡ flying_bytes (e ∷ es)
taken_if true e es rest found s is later =
    let same : e.1 ≡ s = cc in
    let size = ap (λ (f : Flying). f.size) same in
    let all = bytes_more e es in omega (arith, all, size)
taken_if false e es rest found s is later =
    let all = bytes_more e es in let left = bytes_more e rest in let sum = later is in omega (arith, all, left, sum)

pub taken_bytes : (n : ℕ) (es : List (ℕ × Flying)) (s : Flying) → flying_at n es ≡ Some s → flying_bytes (without_number n es) + s.size ≡ flying_bytes es
taken_bytes n [] s is = cc
taken_bytes n (e ∷ es) s is = taken_if (is_at (nat_cmp n) e.0) e es (without_number n es) (flying_at n es) s is (taken_bytes n es s)

none_if : (b : Bool) (e : ℕ × Flying) (es rest : List (ℕ × Flying)) (found : Option Flying) → cond b (Some e.1) found ≡ None → (found ≡ None → rest ≡ es) → cond b es (e ∷ rest) ≡ e ∷ es
none_if true e es rest found is later = cc
none_if false e es rest found is later = ap (λ fs. e ∷ fs) (later is)

pub none_taken : (n : ℕ) (es : List (ℕ × Flying)) → flying_at n es ≡ None → without_number n es ≡ es
none_taken n [] is = refl
none_taken n (e ∷ es) is = none_if (is_at (nat_cmp n) e.0) e es (without_number n es) (flying_at n es) is (none_taken n es)

sized_if : (b : Bool) (e : ℕ × Flying) (es rest : List (ℕ × Flying)) → AreSized (e ∷ es) → AreSized rest → AreSized (cond b es (e ∷ rest))
sized_if true e es rest all later = all.1
sized_if false e es rest all later = (all.0, later)

pub sized_without : (n : ℕ) (es : List (ℕ × Flying)) → AreSized es → AreSized (without_number n es)
sized_without n [] all = tt
sized_without n (e ∷ es) all = sized_if (is_at (nat_cmp n) e.0) e es (without_number n es) all (sized_without n es all.1)

-- ---- a packet is sent

pub sized_with_by : (o : Ordering) (n : ℕ) (s : Flying) (e : ℕ × Flying) (es more : List (ℕ × Flying)) → s.size ≤ max_packet_size → AreSized (e ∷ es) → AreSized more
    → AreSized (match_ordering o ((n, s) ∷ e ∷ es) ((e.0, s) ∷ es) (e ∷ more))
sized_with_by Less n s e es more small all later = (small, all)
sized_with_by Equal n s e es more small all later = (small, all.1)
sized_with_by Greater n s e es more small all later = (all.0, later)

pub sized_with : (n : ℕ) (s : Flying) (es : List (ℕ × Flying)) → s.size ≤ max_packet_size → AreSized es → AreSized (insert_entry nat_cmp es n s)
sized_with n s [] small all = (small, tt)
sized_with n s (e ∷ es) small all = sized_with_by (nat_cmp n e.0) n s e es (insert_entry nat_cmp es n s) small all (sized_with n s es small all.1)

bytes_with_by : (o : Ordering) (n : ℕ) (s : Flying) (e : ℕ × Flying) (es more : List (ℕ × Flying)) → is_eq o ≡ false → flying_bytes more ≡ flying_bytes es + s.size
    → flying_bytes (match_ordering o ((n, s) ∷ e ∷ es) ((e.0, s) ∷ es) (e ∷ more)) ≡ flying_bytes (e ∷ es) + s.size
bytes_with_by Less n s e es more apart later = let all = bytes_more (n, s) (e ∷ es) in omega (arith, all)
bytes_with_by Equal n s e es more apart later = cc
bytes_with_by Greater n s e es more apart later = let all = bytes_more e more in let before = bytes_more e es in omega (arith, all, before, later)

absent_if : (b : Bool) (f : Flying) (found : Option Flying) → cond b (Some f) found ≡ None → (b ≡ false) × (found ≡ None)
absent_if true f found is = cc
absent_if false f found is = (refl, is)

pub bytes_with : (n : ℕ) (s : Flying) (es : List (ℕ × Flying)) → flying_at n es ≡ None → flying_bytes (insert_entry nat_cmp es n s) ≡ flying_bytes es + s.size
bytes_with n s [] absent = let all = bytes_more (n, s) [] in omega (arith, all)
bytes_with n s (e ∷ es) absent =
    let parts = absent_if (is_at (nat_cmp n) e.0) e.1 (flying_at n es) absent in
    bytes_with_by (nat_cmp n e.0) n s e es (insert_entry nat_cmp es n s) parts.0 (bytes_with n s es parts.1)

-- ---- those that a span names

range_is : (lo hi n : ℕ) → range_contains nat_cmp (Included lo) (Included hi) n ≡ is_within (lo, hi) n
range_is lo hi n = grind (arith, nat_tests)

first_if : (b : Bool) (e : ℕ × Flying) (es : List (ℕ × Flying)) (found : Option (ℕ × Flying)) → found ≡ slice_get es 0 → cond b (Some e) found ≡ slice_get (cond b (e ∷ es) es) 0
first_if true e es found is = refl
first_if false e es found is = is

-- the first of them is the first of the map's part
pub first_of_part : (lo hi : ℕ) (es : List (ℕ × Flying)) → find (λ e. is_within (lo, hi) e.0) es ≡ slice_get (entries_between nat_cmp (Included lo) (Included hi) es) 0
first_of_part lo hi [] = refl
first_of_part lo hi (e ∷ es) =
    ap (λ b. cond b (Some e) (find (λ (f : ℕ × Flying). is_within (lo, hi) f.0) es)) (sym (range_is lo hi e.0))
    ∙ first_if (range_contains nat_cmp (Included lo) (Included hi) e.0) e (entries_between nat_cmp (Included lo) (Included hi) es) (find (λ (f : ℕ × Flying). is_within (lo, hi) f.0) es) (first_of_part lo hi es)

same_key : (n m : ℕ) → is_at (nat_cmp n) m ≡ true → n ≡ m
same_key n m is = grind (arith, nat_tests)

found_if : (b : Bool) (test : ℕ → Bool) (x e : ℕ × Flying) (found : Option (ℕ × Flying)) → test x.0 ≡ b → cond b (Some x) found ≡ Some e → (found ≡ Some e → test e.0 ≡ true)
    → test e.0 ≡ true
found_if true test x e found at is later = let same : x ≡ e = cc in ap (λ (f : ℕ × Flying). test f.0) (sym same) ∙ at
found_if false test x e found at is later = later is

-- what is found passes
pub found_passes : (test : ℕ → Bool) (es : List (ℕ × Flying)) (e : ℕ × Flying) → find (λ f. test f.0) es ≡ Some e → test e.0 ≡ true
found_passes test [] e is = cc
found_passes test (x ∷ es) e is = found_if (test x.0) test x e (find (λ (f : ℕ × Flying). test f.0) es) refl is (found_passes test es e)

shorter_if : (b : Bool) (x : ℕ × Flying) (es rest : List (ℕ × Flying)) → (b ≡ false → length rest < length es) → length (cond b es (x ∷ rest)) < length (x ∷ es)
shorter_if true x es rest later = omega arith
shorter_if false x es rest later = let less = later refl in omega (arith, less)

other_found : (b : Bool) (x e : ℕ × Flying) (found : Option (ℕ × Flying)) → cond b (Some x) found ≡ Some e → is_at (nat_cmp e.0) x.0 ≡ false → is_at (nat_cmp e.0) e.0 ≡ true → found ≡ Some e
other_found true x e found is apart self =
    let same : x ≡ e = cc in
    let there : is_at (nat_cmp e.0) x.0 ≡ true = ap (λ (f : ℕ × Flying). is_at (nat_cmp e.0) f.0) same ∙ self in cc
other_found false x e found is apart self = is

at_itself : (n : ℕ) → is_at (nat_cmp n) n ≡ true
at_itself n = grind (arith, nat_tests)

-- without what is found they are fewer
pub fewer_without : (test : ℕ → Bool) (es : List (ℕ × Flying)) (e : ℕ × Flying) → find (λ f. test f.0) es ≡ Some e → length (without_number e.0 es) < length es
fewer_without test [] e is = cc
fewer_without test (x ∷ es) e is =
    shorter_if (is_at (nat_cmp e.0) x.0) x es (without_number e.0 es)
    (λ apart. fewer_without test es e (other_found (test x.0) x e (find (λ (f : ℕ × Flying). test f.0) es) is apart (at_itself e.0)))

left_if : (b : Bool) (test : ℕ → Bool) (n : ℕ) (x : ℕ × Flying) (es rest : List (ℕ × Flying)) → is_at (nat_cmp n) x.0 ≡ b → test n ≡ true
    → filter (λ f. not (test f.0)) rest ≡ filter (λ f. not (test f.0)) es → filter (λ f. not (test f.0)) (cond b es (x ∷ rest)) ≡ filter (λ f. not (test f.0)) (x ∷ es)
left_if true test n x es rest at passes later =
    let named : test x.0 ≡ true = ap test (sym (same_key n x.0 at)) ∙ passes in
    sym (ap (λ b. cond (not b) (x ∷ filter (λ (f : ℕ × Flying). not (test f.0)) es) (filter (λ (f : ℕ × Flying). not (test f.0)) es)) named)
left_if false test n x es rest at passes later = ap (λ fs. cond (not (test x.0)) (x ∷ fs) fs) later

-- what does not pass is left by one that does
pub left_without : (test : ℕ → Bool) (n : ℕ) (es : List (ℕ × Flying)) → test n ≡ true → filter (λ f. not (test f.0)) (without_number n es) ≡ filter (λ f. not (test f.0)) es
left_without test n [] passes = refl
left_without test n (x ∷ es) passes = left_if (is_at (nat_cmp n) x.0) test n x es (without_number n es) refl passes (left_without test n es passes)

none_left_if : (b : Bool) (x : ℕ × Flying) (found : Option (ℕ × Flying)) (es rest : List (ℕ × Flying)) → None ≡ cond b (Some x) found → (None ≡ found → es ≡ rest)
    → x ∷ es ≡ cond (not b) (x ∷ rest) rest
none_left_if true x found es rest is later = cc
none_left_if false x found es rest is later = ap (λ fs. x ∷ fs) (later is)

-- where none is found, all are left
pub all_left : (test : ℕ → Bool) (es : List (ℕ × Flying)) → None ≡ find (λ f. test f.0) es → es ≡ filter (λ f. not (test f.0)) es
all_left test [] is = refl
all_left test (x ∷ es) is =
    none_left_if (test x.0) x (find (λ (f : ℕ × Flying). test f.0) es) es (filter (λ (f : ℕ × Flying). not (test f.0)) es) is (all_left test es)
