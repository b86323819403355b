-- Packets that a Lost line may name, by their numbers, and what taking one of them as owed changes.
use Rattle.std.proofs.Common.{◌≡◌, ◌≢◌, ◌∙◌, ℕ, zero, suc, ◌+◌, ◌-◌, ◌≤◌, ◌<◌, Bool, true, false, ◌&&◌, ◌||◌, max, min, List, [], ◌∷◌, length, get_or, set, map, take, drop, cond, count_by, sum_by, Option, Some, None, refl, sym, ap, subst, arith, inl, inr}
use Rattle.std.specs.Prelude.{if◌then◌else◌, nat_lt, nat_eq}
use Rattle.std.specs.List.{AllByRecursion, list_any}
use Rattle.std.proofs.lemmas.Bool.{and_parts, both_ways, eq-eqb, eqb-true, ne_eqb, or_cases, or_from, lt-ltb, or_left, or_right}
use Rattle.std.proofs.lemmas.Bool.Decides.{nat_tests}
use Rattle.std.proofs.lemmas.List.{set-get_or, take-set-le, drop-set-lt, length-map, take-map}
use Rattle.std.proofs.lemmas.List.Sums.{sum_by-cons, sum_by-set}
use Rattle.qa_base.specs.declared.space.Space.{Space}
use Rattle.qa_base.specs.machine.Numbers.{is_in}
use Rattle.qa_base.specs.values.Events.{is_named, is_space}
use Rattle.qa_sent_packets.specs.Covering.{first_between, is_between}
use Rattle.qa_sent_packets.specs.Fates.{is_flying, is_open, is_owed, is_unacknowledged, is_waiting}
use Rattle.qa_sent_packets.specs.Free.{is_free_by, numbers_of, taken_by, widened}
use Rattle.qa_sent_packets.specs.Held.{AreLosses, AreOrdered, IsBefore, IsBehind, NoneFlies, unacknowledged_in}
use Rattle.qa_sent_packets.specs.Owing.{NoneOwed}
use Rattle.qa_sent_packets.specs.Steps.{with_fate}
use Rattle.qa_sent_packets.specs.declared.fate.Fate.{Fate}
use Rattle.qa_sent_packets.specs.declared.fate.Fate.TheVariants.{Open, Owed, DeclaredLost, Acknowledged, Discarded}
use Rattle.qa_sent_packets.specs.declared.free.FreePackets.{FreePackets}
use Rattle.qa_sent_packets.specs.declared.packet.SentPacket.{SentPacket}
use Rattle.qa_sent_packets.specs.declared.packets.Losses.{Losses}
use Rattle.qa_sent_packets.proofs.Alike.{IsAlike, IsSame, alike_if, alike_other, not_other, same_if, space_is}
use Rattle.qa_sent_packets.proofs.Entries.{IsFound, first_alone, found_at, in_range}
use Rattle.qa_sent_packets.proofs.Owed.{counted_none}
use Rattle.qa_sent_packets.proofs.Parts.{each_drop, each_map, each_take, each_weaker, map_same}

-- ---- each of a list

-- the one at an index
pub each_get : {X : Type 0} (P : X → Type 0) (xs : List X) (at : ℕ) (x : X) → AllByRecursion P xs → at < length xs → x ≡ get_or xs at x → P x
each_get P [] at x all within is = absurd (omega arith)
each_get P (y ∷ xs) zero x all within is = subst P (sym is) all.0
each_get P (y ∷ xs) (suc at) x all within is = each_get P xs at x all.1 (omega arith) is

-- and where one was written
pub each_set : {X : Type 0} (P : X → Type 0) (xs : List X) (at : ℕ) (y : X) → AllByRecursion P xs → P y → AllByRecursion P (set xs at y)
each_set P [] at y all here = tt
each_set P (x ∷ xs) zero y all here = (here, all.1)
each_set P (x ∷ xs) (suc at) y all here = (all.0, each_set P xs at y all.1 here)

-- fewer of the first, and fewer of the rest
pub each_fewer : {X : Type 0} (P : X → Type 0) (xs : List X) (n m : ℕ) → n ≤ m → AllByRecursion P (take m xs) → AllByRecursion P (take n xs)
each_fewer P xs zero m less all = tt
each_fewer P [] (suc n) m less all = tt
each_fewer P (x ∷ xs) (suc n) zero less all = absurd (omega (arith, less))
each_fewer P (x ∷ xs) (suc n) (suc m) less all = (all.0, each_fewer P xs n m (omega (arith, less)) all.1)

pub each_later : {X : Type 0} (P : X → Type 0) (xs : List X) (n m : ℕ) → m ≤ n → AllByRecursion P (drop m xs) → AllByRecursion P (drop n xs)
each_later P xs n zero less all = each_drop P xs n all
each_later P [] zero (suc m) less all = tt
each_later P [] (suc n) (suc m) less all = tt
each_later P (x ∷ xs) zero (suc m) less all = absurd (omega (arith, less))
each_later P (x ∷ xs) (suc n) (suc m) less all = each_later P xs n m (omega (arith, less)) all

-- ---- which packets wait

waits_open : (f : Fate) → is_open f ≡ true → is_unacknowledged f ≡ true
waits_open Open e = refl
waits_open Owed e = cc
waits_open DeclaredLost e = cc
waits_open Acknowledged e = cc
waits_open Discarded e = cc

pub flies_of : (s : Space) (p : SentPacket) → is_flying s p ≡ true → (is_space s p.space ≡ true) × (is_open p.fate ≡ true)
flies_of s p flies =
    let two = and_parts (is_space s p.space) (p.in_flight && is_open p.fate) flies in
    (two.0, (and_parts p.in_flight (is_open p.fate) two.1).1)

-- one that is free is waiting
pub free_waits : (free : FreePackets) (p : SentPacket) → is_free_by free p ≡ true → is_waiting free.space p ≡ true
free_waits free p is =
    let flies = flies_of free.space p (and_parts (is_flying free.space p) (nat_lt p.number free.end) is).0 in
    rw (flies.0, waits_open p.fate flies.1) refl

-- each that passes a test is waiting
abbrev pub AreWaiting : Space → (SentPacket → Bool) → List SentPacket → Type 0
AreWaiting s test ps = AllByRecursion (λ p. test p ≡ true → is_waiting s p ≡ true) ps

pub all_free_wait : (free : FreePackets) (ps : List SentPacket) → AreWaiting free.space (is_free_by free) ps
all_free_wait free [] = tt
all_free_wait free (p ∷ ps) = (free_waits free p, all_free_wait free ps)

here_of : (s : Space) (p : SentPacket) → is_waiting s p ≡ true → is_space s p.space ≡ true
here_of s p waits = (and_parts (is_space s p.space) (is_unacknowledged p.fate) waits).0

-- ---- the number of one of them

in_if : (x n : ℕ) (ns : List ℕ) (b : Bool) → (b ≡ true → x ≢ n) → is_in ns n ≡ false → is_in (if b then x ∷ ns else ns) n ≡ false
in_if x n ns true other rest = or_from (nat_eq x n) (is_in ns n) (ne_eqb x n (other refl)) rest
in_if x n ns false other rest = rest

pub numbers_if : (test : SentPacket → Bool) (x : SentPacket) (ps : List SentPacket) (b : Bool) → test x ≡ b → numbers_of test (x ∷ ps) ≡ (if b then x.number ∷ numbers_of test ps else numbers_of test ps)
numbers_if test x ps true is = rw is refl
numbers_if test x ps false is = rw is refl

pub not_in : (test : SentPacket → Bool) (x : SentPacket) (ps : List SentPacket) (n : ℕ) → (test x ≡ true → x.number ≢ n) → is_in (numbers_of test ps) n ≡ false → is_in (numbers_of test (x ∷ ps)) n ≡ false
not_in test x ps n other rest = rw (numbers_if test x ps (test x) refl) (in_if x.number n (numbers_of test ps) (test x) other rest)

is_alone : (n : ℕ) → is_between n n n ≡ true
is_alone n = in_range n n n (omega arith) (omega arith)

between_is : (n q : ℕ) → is_between n n q ≡ false → q ≢ n
between_is n q out same = both_ways (is_between n n q) out (subst (λ (x : ℕ). is_between n n x ≡ true) (sym same) (is_alone n))

entry_out : (n : ℕ) (e : ℕ × ℕ) (o : Option (ℕ × ℕ)) (b : Bool) → is_between n n e.0 ≡ b → (if b then Some e else o) ≡ None → (b ≡ false) × (o ≡ None)
entry_out n e o true is none = cc
entry_out n e o false is none = (refl, none)

none_if : (s : Space) (test : SentPacket → Bool) (d n : ℕ) (x : SentPacket) (ps : List SentPacket) (w : Bool) → is_waiting s x ≡ w → (test x ≡ true → is_waiting s x ≡ true)
    → (first_between n n (unacknowledged_in s (suc d) ps) ≡ None → is_in (numbers_of test ps) n ≡ false)
    → first_between n n (if w then (x.number, d) ∷ unacknowledged_in s (suc d) ps else unacknowledged_in s (suc d) ps) ≡ None → is_in (numbers_of test (x ∷ ps)) n ≡ false
none_if s test d n x ps true is waits rest none =
    let out = entry_out n (x.number, d) (first_between n n (unacknowledged_in s (suc d) ps)) (is_between n n x.number) refl none in
    not_in test x ps n (λ passes. between_is n x.number out.0) (rest out.1)
none_if s test d n x ps false is waits rest none =
    not_in test x ps n (λ passes same. both_ways (is_waiting s x) is (waits passes)) (rest none)

-- where no entry has the number, none of those that pass has it
pub none_there : (s : Space) (test : SentPacket → Bool) (d n : ℕ) (ps : List SentPacket) → AreWaiting s test ps → first_between n n (unacknowledged_in s d ps) ≡ None → is_in (numbers_of test ps) n ≡ false
none_there s test d n [] waits none = refl
none_there s test d n (x ∷ ps) waits none = none_if s test d n x ps (is_waiting s x) refl waits.0 (none_there s test (suc d) n ps waits.1) none

above_of : (s : Space) (x q : SentPacket) → IsBefore q x → is_space s x.space ≡ true → is_space s q.space ≡ true → x.number < q.number
above_of s x q before of_x of_q = before.number (subst (λ (t : Space). is_space t x.space ≡ true) (space_is s q.space of_q) of_x)

-- behind a packet with the number no other of the space has it
above_rest : (s : Space) (test : SentPacket → Bool) (x : SentPacket) (n : ℕ) (ps : List SentPacket) → x.number ≡ n → is_space s x.space ≡ true → AllByRecursion (λ q. IsBefore q x) ps → AreWaiting s test ps
    → is_in (numbers_of test ps) n ≡ false
above_rest s test x n [] at here before waits = refl
above_rest s test x n (q ∷ ps) at here before waits =
    not_in test q ps n (λ passes same. let above = above_of s x q before.0 here (here_of s q (waits.0 passes)) in absurd (omega (arith, above, at, same)))
    (above_rest s test x n ps at here before.1 waits.1)

written_if : (test : SentPacket → Bool) (y : SentPacket) (ps : List SentPacket) (n : ℕ) (b : Bool) → test y ≡ b → y.number ≡ n → is_in (numbers_of test ps) n ≡ false → is_in (if b then y.number ∷ numbers_of test ps else numbers_of test ps) n ≡ b
written_if test y ps n true is same rest = or_left (nat_eq y.number n) (is_in (numbers_of test ps) n) (eq-eqb y.number n same)
written_if test y ps n false is same rest = rest

first_written : (s : Space) (test : SentPacket → Bool) (n : ℕ) (x p y : SentPacket) (ps : List SentPacket) → p ≡ x → p.number ≡ n → is_space s p.space ≡ true → y.number ≡ n
    → AllByRecursion (λ q. IsBefore q x) ps → AreWaiting s test ps → is_in (numbers_of test (y ∷ ps)) n ≡ test y
first_written s test n x p y ps is at here same before waits =
    rw (numbers_if test y ps (test y) refl) (written_if test y ps n (test y) refl same
    (above_rest s test x n ps (ap (λ (z : SentPacket). z.number) (sym is) ∙ at) (ap (λ (z : SentPacket). is_space s z.space) (sym is) ∙ here) before waits))

passed_if : (test : SentPacket → Bool) (x : SentPacket) (ps : List SentPacket) (n : ℕ) (b c : Bool) → test x ≡ b → (b ≡ true → x.number ≢ n) → is_in (numbers_of test ps) n ≡ c → is_in (if b then x.number ∷ numbers_of test ps else numbers_of test ps) n ≡ c
passed_if test x ps n true c is other rest = ap (λ b. b || is_in (numbers_of test ps) n) (ne_eqb x.number n (other refl)) ∙ rest
passed_if test x ps n false c is other rest = rest

-- whether one that is written where a packet with the number stands passes says whether one with that number passes
pub written_there : (s : Space) (test : SentPacket → Bool) (n : ℕ) (ps : List SentPacket) (at : ℕ) (p y : SentPacket) → AreOrdered ps → AreWaiting s test ps → at < length ps → p ≡ get_or ps at p
    → p.number ≡ n → is_space s p.space ≡ true → y.number ≡ n → is_in (numbers_of test (set ps at y)) n ≡ test y
written_there s test n [] at p y ordered waits within is number here same = absurd (omega arith)
written_there s test n (x ∷ ps) zero p y ordered waits within is number here same = first_written s test n x p y ps is number here same ordered.0 waits.1
written_there s test n (x ∷ ps) (suc at) p y ordered waits within is number here same =
    rw (numbers_if test x (set ps at y) (test x) refl) (passed_if test x (set ps at y) n (test x) (test y) refl
    (λ passes at_n. let before = each_get (λ q. IsBefore q x) ps at p ordered.0 (omega arith) is in
    let above = above_of s x p before (here_of s x (waits.0 passes)) here in absurd (omega (arith, above, number, at_n)))
    (written_there s test n ps at p y ordered.1 waits.1 (omega arith) is number here same))

-- whether the packet that has the number passes says whether one with that number passes
pub one_there : (s : Space) (test : SentPacket → Bool) (n : ℕ) (ps : List SentPacket) (at : ℕ) (p : SentPacket) → AreOrdered ps → AreWaiting s test ps → at < length ps → p ≡ get_or ps at p
    → p.number ≡ n → is_space s p.space ≡ true → is_in (numbers_of test ps) n ≡ test p
one_there s test n ps at p ordered waits within is number here =
    let same : set ps at p ≡ ps = ap (set ps at) is ∙ set-get_or ps at p in
    subst (λ (qs : List SentPacket). is_in (numbers_of test qs) n ≡ test p) same (written_there s test n ps at p p ordered waits within is number here number)

-- ---- one is taken

in_more : (x n : ℕ) (ns ms : List ℕ) (b : Bool) → (is_in ns n ≡ true → is_in ms n ≡ true) → is_in (if b then x ∷ ns else ns) n ≡ true → is_in (if b then x ∷ ms else ms) n ≡ true
in_more x n ns ms true goes is = elim (or_cases (nat_eq x n) (is_in ns n) is) [
  | inl here ↦ or_left (nat_eq x n) (is_in ms n) here
  | inr later ↦ or_right (nat_eq x n) (is_in ms n) (goes later)
]
in_more x n ns ms false goes is = goes is

in_any : (x n : ℕ) (ns : List ℕ) (b : Bool) → is_in ns n ≡ true → is_in (if b then x ∷ ns else ns) n ≡ true
in_any x n ns true is = or_right (nat_eq x n) (is_in ns n) is
in_any x n ns false is = is

-- where one is written that does not pass, those that pass are among those that did
pub fewer_pass : (test : SentPacket → Bool) (n : ℕ) (ps : List SentPacket) (at : ℕ) (y : SentPacket) → test y ≡ false → is_in (numbers_of test (set ps at y)) n ≡ true → is_in (numbers_of test ps) n ≡ true
fewer_pass test n [] at y out is = is
fewer_pass test n (x ∷ ps) zero y out is =
    rw (numbers_if test x ps (test x) refl) (in_any x.number n (numbers_of test ps) (test x) (subst (λ (ns : List ℕ). is_in ns n ≡ true) (numbers_if test y ps false out) is))
fewer_pass test n (x ∷ ps) (suc at) y out is =
    rw (numbers_if test x ps (test x) refl) (in_more x.number n (numbers_of test (set ps at y)) (numbers_of test ps) (test x) (fewer_pass test n ps at y out)
    (subst (λ (ns : List ℕ). is_in ns n ≡ true) (numbers_if test x (set ps at y) (test x) refl) is))

all_off : (a b : Bool) → (a && (b && false)) ≡ false
all_off true true = refl
all_off true false = refl
all_off false b = refl

-- one that was taken is free no more
pub taken_out : (free : FreePackets) (p : SentPacket) → is_free_by free (with_fate Owed p) ≡ false
taken_out free p = ap (λ b. b && nat_lt p.number free.end) (all_off (is_space free.space p.space) p.in_flight)

owed_if : (p : SentPacket) (b : Bool) → b ≡ false → (if b then with_fate Owed p else p) ≡ p
owed_if p true is = cc
owed_if p false is = refl

pub taken_same : (free : FreePackets) (ranges : List (ℕ × ℕ)) (p : SentPacket) → IsSame p (taken_by free ranges p)
taken_same free ranges p = same_if (is_free_by free p && is_named ranges p.number) Owed p

pub taken_alike : (free : FreePackets) (ranges : List (ℕ × ℕ)) (t : Space) → is_space t free.space ≡ false → (p : SentPacket) → IsAlike t p (taken_by free ranges p)
taken_alike free ranges t out p = alike_if t (is_free_by free p && is_named ranges p.number) Owed p (λ taken.
    let left = (and_parts (is_free_by free p) (is_named ranges p.number) taken).0 in
    alike_other t Owed p (not_other t free.space p out (flies_of free.space p (and_parts (is_flying free.space p) (nat_lt p.number free.end) left).0).0))

again : (free : FreePackets) (ranges : List (ℕ × ℕ)) (p : SentPacket) → is_free_by free p ≡ true → is_named ranges p.number ≡ true → taken_by free ranges (with_fate Owed p) ≡ taken_by free ranges p
again free ranges p left named =
    owed_if (with_fate Owed p) (is_free_by free (with_fate Owed p) && is_named ranges p.number) (ap (λ b. b && is_named ranges p.number) (taken_out free p))
    ∙ sym (ap (λ b. if b && is_named ranges p.number then with_fate Owed p else p) left ∙ ap (λ b. if b then with_fate Owed p else p) named)

-- one that is taken was to be taken
pub taken_written : (free : FreePackets) (ranges : List (ℕ × ℕ)) (ps : List SentPacket) (at : ℕ) (p : SentPacket) → p ≡ get_or ps at p → is_free_by free p ≡ true → is_named ranges p.number ≡ true
    → map (taken_by free ranges) (set ps at (with_fate Owed p)) ≡ map (taken_by free ranges) ps
taken_written free ranges [] at p is left named = refl
taken_written free ranges (x ∷ ps) zero p is left named =
    ap (λ q. q ∷ map (taken_by free ranges) ps) (again free ranges p left named ∙ ap (taken_by free ranges) is)
taken_written free ranges (x ∷ ps) (suc at) p is left named = ap (λ qs. taken_by free ranges x ∷ qs) (taken_written free ranges ps at p is left named)

before_set : (x : SentPacket) (ps : List SentPacket) (at : ℕ) (p : SentPacket) (f : Fate) → AllByRecursion (λ q. IsBefore q x) ps → p ≡ get_or ps at p → AllByRecursion (λ q. IsBefore q x) (set ps at (with_fate f p))
before_set x [] at p f before is = tt
before_set x (q ∷ ps) zero p f before is = (let b = subst (λ (z : SentPacket). IsBefore z x) (sym is) before.0 in record { place = b.place; time = b.time; number = b.number }, before.1)
before_set x (q ∷ ps) (suc at) p f before is = (before.0, before_set x ps at p f before.1 is)

-- the order of sending stays
pub ordered_set : (ps : List SentPacket) (at : ℕ) (p : SentPacket) (f : Fate) → AreOrdered ps → p ≡ get_or ps at p → AreOrdered (set ps at (with_fate f p))
ordered_set [] at p f ordered is = tt
ordered_set (x ∷ ps) zero p f ordered is =
    (each_weaker (λ q. IsBefore q x) (λ q. IsBefore q (with_fate f p)) (λ q before. let b = subst (λ (z : SentPacket). IsBefore q z) (sym is) before in record { place = b.place; time = b.time; number = b.number }) ps ordered.0, ordered.1)
ordered_set (x ∷ ps) (suc at) p f ordered is = (before_set x ps at p f ordered.0 is, ordered_set ps at p f ordered.1 is)

-- ---- all are taken

taken_not : (a b : Bool) → (a ≡ true → b ≡ false) → (a && b) ≡ false
taken_not true b out = out refl
taken_not false b out = refl

none_taken : (free : FreePackets) (ranges : List (ℕ × ℕ)) (x : SentPacket) → (is_free_by free x ≡ true → is_named ranges x.number ≡ false) → taken_by free ranges x ≡ x
none_taken free ranges x out = owed_if x (is_free_by free x && is_named ranges x.number) (taken_not (is_free_by free x) (is_named ranges x.number) out)

each_out : (free : FreePackets) (ranges : List (ℕ × ℕ)) (ps : List SentPacket) → ((n : ℕ) → is_in (numbers_of (is_free_by free) ps) n ≡ true → is_named ranges n ≡ false) → AllByRecursion (λ p. taken_by free ranges p ≡ p) ps
each_out free ranges [] out = tt
each_out free ranges (x ∷ ps) out = (
  none_taken free ranges x (λ left. out x.number (subst (λ (ns : List ℕ). is_in ns x.number ≡ true) (sym (numbers_if (is_free_by free) x ps true left)) (or_left (nat_eq x.number x.number) (is_in (numbers_of (is_free_by free) ps) x.number) (eq-eqb x.number x.number refl)))),
  each_out free ranges ps (λ n is. out n (subst (λ (ns : List ℕ). is_in ns n ≡ true) (sym (numbers_if (is_free_by free) x ps (is_free_by free x) refl)) (in_any x.number n (numbers_of (is_free_by free) ps) (is_free_by free x) is))),
)

-- where none that is free is named, all that are named are taken
pub all_taken : (free : FreePackets) (ranges : List (ℕ × ℕ)) (ps : List SentPacket) → ((n : ℕ) → is_in (numbers_of (is_free_by free) ps) n ≡ true → is_named ranges n ≡ false) → map (taken_by free ranges) ps ≡ ps
all_taken free ranges ps out = map_same (taken_by free ranges) ps (each_out free ranges ps out)

grounded_if : (s : Space) (p : SentPacket) (b : Bool) → is_flying s p ≡ false → is_flying s (if b then with_fate Owed p else p) ≡ false
grounded_if s p true out = all_off (is_space s p.space) p.in_flight
grounded_if s p false out = out

-- none flies where none did
pub taken_behind : (free : FreePackets) (ranges : List (ℕ × ℕ)) (d : ℕ) (ps : List SentPacket) (next : ℕ) → IsBehind free.space d ps next → IsBehind free.space d (map (taken_by free ranges) ps) next
taken_behind free ranges d ps next b =
    let long : length (map (taken_by free ranges) ps) ≡ length ps = length-map ps (taken_by free ranges) in
    let high = b.high in
    record {
      low = b.low;
      high = omega (arith, high, long);
      none = subst (NoneFlies free.space) (sym (take-map (taken_by free ranges) (next - d) ps))
          (each_map (λ p. is_flying free.space p ≡ false) (λ p. is_flying free.space p ≡ false) (taken_by free ranges) (λ p out. grounded_if free.space p (is_free_by free p && is_named ranges p.number) out) (take (next - d) ps) b.none);
    }

-- ---- the losses with one more

with_first : (d : ℕ) (ps : List SentPacket) (losses : Losses) (at place : ℕ) (p : SentPacket) → NoneOwed ps → place ≡ d + at → is_space losses.space p.space ≡ true
    → count_by (λ q. is_owed q.fate) (set ps at (with_fate Owed p)) ≡ 1
    → AllByRecursion (λ q. is_owed q.fate ≡ true → is_space losses.space q.space ≡ true) (set ps at (with_fate Owed p))
    → AreLosses d (set ps at (with_fate Owed p)) (record { space = losses.space; count = 1; from = place; to = place + 1 })
with_first d ps losses at place p none is here counted of_space =
    let y = with_fate Owed p in
    let front : place - d ≡ at = omega (arith, is) in
    let rest : (place + 1) - d ≡ at + 1 = omega (arith, is) in
    record {
      count = sym counted;
      of_space = of_space;
      before = subst (λ (n : ℕ). NoneOwed (take n (set ps at y))) (sym front) (subst NoneOwed (sym (take-set-le at ps at y (omega arith))) (each_take (λ q. is_owed q.fate ≡ false) ps at none));
      behind = subst (λ (n : ℕ). NoneOwed (drop n (set ps at y))) (sym rest) (subst NoneOwed (sym (drop-set-lt (at + 1) ps at y (omega arith))) (each_drop (λ q. is_owed q.fate ≡ false) ps (at + 1) none));
    }

with_other : (d : ℕ) (ps : List SentPacket) (losses : Losses) (at place : ℕ) (p : SentPacket) → AreLosses d ps losses → place ≡ d + at
    → count_by (λ q. is_owed q.fate) (set ps at (with_fate Owed p)) ≡ losses.count + 1
    → AllByRecursion (λ q. is_owed q.fate ≡ true → is_space losses.space q.space ≡ true) (set ps at (with_fate Owed p))
    → AreLosses d (set ps at (with_fate Owed p)) (record { space = losses.space; count = losses.count + 1; from = min losses.from place; to = max losses.to (place + 1) })
with_other d ps losses at place p are is counted of_space =
    let y = with_fate Owed p in
    let from = min losses.from place - d in
    let to = max losses.to (place + 1) - d in
    record {
      count = sym counted;
      of_space = of_space;
      before = subst NoneOwed (sym (take-set-le from ps at y (omega (arith, is)))) (each_fewer (λ q. is_owed q.fate ≡ false) ps from (losses.from - d) (omega arith) are.before);
      behind = subst NoneOwed (sym (drop-set-lt to ps at y (omega (arith, is)))) (each_later (λ q. is_owed q.fate ≡ false) ps to (losses.to - d) (omega arith) are.behind);
    }

widened_if : (d : ℕ) (ps : List SentPacket) (losses : Losses) (at place : ℕ) (p : SentPacket) (b : Bool) → nat_eq losses.count 0 ≡ b → AreLosses d ps losses → place ≡ d + at → is_space losses.space p.space ≡ true
    → count_by (λ q. is_owed q.fate) (set ps at (with_fate Owed p)) ≡ losses.count + 1
    → AllByRecursion (λ q. is_owed q.fate ≡ true → is_space losses.space q.space ≡ true) (set ps at (with_fate Owed p))
    → AreLosses d (set ps at (with_fate Owed p)) (if b then record { space = losses.space; count = 1; from = place; to = place + 1 } else record { space = losses.space; count = losses.count + 1; from = min losses.from place; to = max losses.to (place + 1) })
widened_if d ps losses at place p true nought are is here counted of_space =
    let none : losses.count ≡ 0 = eqb-true losses.count 0 nought in
    let one : count_by (λ q. is_owed q.fate) (set ps at (with_fate Owed p)) ≡ 1 = omega (arith, counted, none) in
    with_first d ps losses at place p (counted_none ps (sym are.count ∙ none)) is here one of_space
widened_if d ps losses at place p false some are is here counted of_space = with_other d ps losses at place p are is counted of_space

owed_weight : (p : SentPacket) (x : SentPacket) → p ≡ x → is_owed p.fate ≡ false → ◌≡◌ {A = ℕ} (cond (is_owed x.fate) 1 0) 0
owed_weight p x is out = ap (λ (z : SentPacket). cond (is_owed z.fate) 1 0) (sym is) ∙ ap (λ b. cond b 1 0) out

-- what is owed is within the places with one more
pub losses_with : (d : ℕ) (ps : List SentPacket) (losses : Losses) (at place : ℕ) (p : SentPacket) → AreLosses d ps losses → at < length ps → p ≡ get_or ps at p → is_owed p.fate ≡ false
    → is_space losses.space p.space ≡ true → place ≡ d + at → AreLosses d (set ps at (with_fate Owed p)) (widened place losses)
losses_with d ps losses at place p are within is out here place_is =
    let y = with_fate Owed p in
    let weight : SentPacket → ℕ = λ q. cond (is_owed q.fate) 1 0 in
    let sums : sum_by weight (set ps at y) + weight (get_or ps at p) ≡ sum_by weight ps + 1 = sum_by-set weight ps at y p within in
    let old : weight (get_or ps at p) ≡ 0 = owed_weight p (get_or ps at p) is out in
    let before : losses.count ≡ sum_by weight ps = are.count in
    let counted : sum_by weight (set ps at y) ≡ losses.count + 1 = omega (arith, sums, old, before) in
    widened_if d ps losses at place p (nat_eq losses.count 0) refl are place_is here counted
    (each_set (λ q. is_owed q.fate ≡ true → is_space losses.space q.space ≡ true) ps at y are.of_space (λ owed. here))

-- ---- the packet that has a number

pub open_not_owed : (f : Fate) → is_open f ≡ true → is_owed f ≡ false
open_not_owed Open e = refl
open_not_owed Owed e = cc
open_not_owed DeclaredLost e = cc
open_not_owed Acknowledged e = cc
open_not_owed Discarded e = cc

entry_at : (n : ℕ) (es : List (ℕ × ℕ)) (e : ℕ × ℕ) → first_between n n es ≡ Some e → first_between n n es ≡ Some (n, e.1)
entry_at n es e is =
    let one = first_alone n n es e.0 e.1 is in
    let same : e.0 ≡ n = omega (arith, one.1, one.2) in
    is ∙ ap (λ (m : ℕ). Some (m, e.1)) same

-- where the entry of a number leads
pub entry_leads : (s : Space) (d n : ℕ) (ps : List SentPacket) (es : List (ℕ × ℕ)) (got : Option (ℕ × ℕ)) (e : ℕ × ℕ) → es ≡ unacknowledged_in s d ps → got ≡ first_between n n es → got ≡ Some e
    → (d ≤ e.1) × IsFound s d n (e.1 - d) ps
entry_leads s d n ps es got e is found some = found_at s d n e.1 ps es is (entry_at n es e (sym found ∙ some))

-- where there is none, none that passes has the number
pub entry_none : (s : Space) (test : SentPacket → Bool) (d n : ℕ) (ps : List SentPacket) (es : List (ℕ × ℕ)) (got : Option (ℕ × ℕ)) → AreWaiting s test ps → es ≡ unacknowledged_in s d ps → got ≡ first_between n n es → got ≡ None
    → is_in (numbers_of test ps) n ≡ false
entry_none s test d n ps es got waits is found none = none_there s test d n ps waits (ap (first_between n n) (sym is) ∙ (sym found ∙ none))

-- where it leads to a packet that passes or not
pub entry_passes : (s : Space) (test : SentPacket → Bool) (d n at : ℕ) (ps : List SentPacket) (p : SentPacket) → AreOrdered ps → AreWaiting s test ps → IsFound s d n at ps → p ≡ get_or ps at p → is_in (numbers_of test ps) n ≡ test p
entry_passes s test d n at ps p ordered waits found is = one_there s test n ps at p ordered waits found.within is (found.number p is) (here_of s p (found.waits p is))

-- one that is written there, which does not pass
pub entry_written : (s : Space) (test : SentPacket → Bool) (d n at : ℕ) (ps : List SentPacket) (p y : SentPacket) → AreOrdered ps → AreWaiting s test ps → IsFound s d n at ps → p ≡ get_or ps at p → y.number ≡ p.number → test y ≡ false
    → is_in (numbers_of test (set ps at y)) n ≡ false
entry_written s test d n at ps p y ordered waits found is same out =
    written_there s test n ps at p y ordered waits found.within is (found.number p is) (here_of s p (found.waits p is)) (same ∙ found.number p is) ∙ out

-- the numbers that are left, and none of them is this one
pub left_of : (test : SentPacket → Bool) (number : ℕ) (qs ps : List SentPacket) → is_in (numbers_of test qs) number ≡ false → ((n : ℕ) → is_in (numbers_of test qs) n ≡ true → is_in (numbers_of test ps) n ≡ true)
    → (n : ℕ) → is_in (numbers_of test qs) n ≡ true → (is_in (numbers_of test ps) n ≡ true) × (n ≡ number → ⊥)
left_of test number qs ps out goes n is = (goes n is, λ same. both_ways (is_in (numbers_of test qs) number) out (subst (λ (m : ℕ). is_in (numbers_of test qs) m ≡ true) same is))

-- ---- none is taken

never_below : (flies : Bool) (n e : ℕ) → e ≡ 0 → (flies && nat_lt n e) ≡ false
never_below true n e is = (let out : nat_lt n e ≡ false = grind (arith, nat_tests) in out)
never_below false n e is = refl

not_taken : (free : FreePackets) (ranges : List (ℕ × ℕ)) → free.end ≡ 0 → (p : SentPacket) → taken_by free ranges p ≡ p
not_taken free ranges is p = ap (λ b. if b && is_named ranges p.number then with_fate Owed p else p) (never_below (is_flying free.space p) p.number free.end is)

-- where nothing is free
pub nothing_taken : (free : FreePackets) (ranges : List (ℕ × ℕ)) (ps : List SentPacket) → free.end ≡ 0 → map (taken_by free ranges) ps ≡ ps
nothing_taken free ranges [] is = refl
nothing_taken free ranges (p ∷ ps) is = ap (λ q. q ∷ map (taken_by free ranges) ps) (not_taken free ranges is p) ∙ ap (λ qs. p ∷ qs) (nothing_taken free ranges ps is)

-- ---- how many are taken

count_if : (free : FreePackets) (ranges : List (ℕ × ℕ)) (p : SentPacket) (b : Bool) → (is_free_by free p && is_named ranges p.number) ≡ b
    → cond (is_owed (if b then with_fate Owed p else p).fate) 1 0 ≡ cond (is_owed p.fate) 1 0 + cond b 1 0
count_if free ranges p true is =
    let left = (and_parts (is_free_by free p) (is_named ranges p.number) is).0 in
    let flies = flies_of free.space p (and_parts (is_flying free.space p) (nat_lt p.number free.end) left).0 in
    sym (ap (λ b. cond b 1 0 + 1) (open_not_owed p.fate flies.1))
count_if free ranges p false is = omega arith

-- they are owed beside those that were
pub counted_taken : (free : FreePackets) (ranges : List (ℕ × ℕ)) (ps : List SentPacket)
    → count_by (λ p. is_owed p.fate) (map (taken_by free ranges) ps) ≡ count_by (λ p. is_owed p.fate) ps + count_by (λ p. is_free_by free p && is_named ranges p.number) ps
counted_taken free ranges [] = refl
counted_taken free ranges (p ∷ ps) =
    let taken : SentPacket → Bool = λ q. is_free_by free q && is_named ranges q.number in
    let rest = counted_taken free ranges ps in
    let here = count_if free ranges p (taken p) refl in
    let after : count_by (λ q. is_owed q.fate) (taken_by free ranges p ∷ map (taken_by free ranges) ps) ≡ cond (is_owed (taken_by free ranges p).fate) 1 0 + count_by (λ q. is_owed q.fate) (map (taken_by free ranges) ps) =
    sum_by-cons (λ q. cond (is_owed q.fate) 1 0) (taken_by free ranges p) (map (taken_by free ranges) ps) in
    let before : count_by (λ q. is_owed q.fate) (p ∷ ps) ≡ cond (is_owed p.fate) 1 0 + count_by (λ q. is_owed q.fate) ps = sum_by-cons (λ q. cond (is_owed q.fate) 1 0) p ps in
    let named : count_by taken (p ∷ ps) ≡ cond (taken p) 1 0 + count_by taken ps = sum_by-cons (λ q. cond (taken q) 1 0) p ps in
    omega (arith, rest, here, after, before, named)

any_if : (test : SentPacket → Bool) (p : SentPacket) (ps : List SentPacket) (b : Bool) → test p ≡ b → nat_lt 0 (count_by test ps) ≡ list_any test ps → nat_lt 0 (cond b 1 0 + count_by test ps) ≡ (b || list_any test ps)
any_if test p ps true is rest = lt-ltb 0 (1 + count_by test ps) (omega arith)
any_if test p ps false is rest = let same : 0 + count_by test ps ≡ count_by test ps = omega arith in ap (nat_lt 0) same ∙ rest

any_counted : (test : SentPacket → Bool) (ps : List SentPacket) → nat_lt 0 (count_by test ps) ≡ list_any test ps
any_counted test [] = refl
any_counted test (p ∷ ps) =
    let count : count_by test (p ∷ ps) ≡ cond (test p) 1 0 + count_by test ps = sum_by-cons (λ q. cond (test q) 1 0) p ps in
    ap (nat_lt 0) count ∙ any_if test p ps (test p) refl (any_counted test ps)

more_than : (m n : ℕ) → nat_lt m (m + n) ≡ nat_lt 0 n
more_than m n = grind (arith, nat_tests)

-- there are more where any is
pub any_taken : (free : FreePackets) (ranges : List (ℕ × ℕ)) (ps : List SentPacket) (before after : ℕ) → before ≡ count_by (λ p. is_owed p.fate) ps → after ≡ count_by (λ p. is_owed p.fate) (map (taken_by free ranges) ps)
    → nat_lt before after ≡ list_any (λ p. is_free_by free p && is_named ranges p.number) ps
any_taken free ranges ps before after was is =
    let taken : SentPacket → Bool = λ q. is_free_by free q && is_named ranges q.number in
    let more : after ≡ before + count_by taken ps = is ∙ (counted_taken free ranges ps ∙ ap (λ n. n + count_by taken ps) (sym was)) in
    ap (nat_lt before) more ∙ (more_than before (count_by taken ps) ∙ any_counted taken ps)
