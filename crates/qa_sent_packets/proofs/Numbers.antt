-- Which numbers a Lost line may name, and whether it names those of all that is owed.
use Rattle.std.proofs.Common.{◌≡◌, ◌∙◌, ℕ, ◌+◌, ◌≤◌, ◌<◌, Bool, true, false, ◌||◌, List, [], ◌∷◌, find, map, Option, Some, None, refl, sym, ap, subst, arith, inl, inr}
use Rattle.std.specs.Prelude.{if◌then◌else◌, ◌↔◌, IsTrue, nat_eq, nat_lt}
use Rattle.std.specs.List.{AllByRecursion, list_any}
use Rattle.std.proofs.lemmas.Bool.{cases_Bool, cases_order, eq-eqb, eqb-true, le-ltb, ltb-false, ltb-true, or_cases, or_left, or_right, and_parts}
use Rattle.qa_base.specs.declared.space.Space.{Space}
use Rattle.qa_base.specs.machine.Numbers.{AreRanges, is_in, names_between}
use Rattle.qa_base.specs.values.Events.{is_named, is_space}
use Rattle.qa_base.proofs.machine.Ranges.{names_between_is}
use Rattle.qa_sent_packets.specs.Fates.{is_flying, is_owed}
use Rattle.qa_sent_packets.specs.Free.{free_numbers, is_free_by, is_nameable_by, nameable_numbers}
use Rattle.qa_sent_packets.specs.Held.{AreOrdered, IsBefore}
use Rattle.qa_sent_packets.specs.Naming.{AreNext}
use Rattle.qa_sent_packets.specs.Owing.{AreRising}
use Rattle.qa_sent_packets.specs.Walks.{owed_numbers, owed_of}
use Rattle.qa_sent_packets.specs.declared.free.FreePackets.{FreePackets}
use Rattle.qa_sent_packets.specs.declared.packet.SentPacket.{SentPacket}
use Rattle.qa_sent_packets.proofs.Alike.{space_is}
use Rattle.qa_sent_packets.proofs.Taken.{flies_of, not_in, numbers_if}

-- ---- the numbers of what is owed rise

number_above : (t : Space) (p q : SentPacket) → IsBefore q p → is_space t p.space ≡ true → is_space t q.space ≡ true → p.number < q.number
number_above t p q before of_p of_q = before.number (subst (λ (x : Space). is_space x p.space ≡ true) (space_is t q.space of_q) of_p)

above_if : (p q : SentPacket) (ps : List SentPacket) (owed : Bool) → (owed ≡ true → p.number < q.number) → AllByRecursion (λ m. p.number < m) (owed_numbers ps)
    → AllByRecursion (λ m. p.number < m) (map (λ (x : SentPacket). x.number) (if owed then q ∷ owed_of ps else owed_of ps))
above_if p q ps true here rest = (here refl, rest)
above_if p q ps false here rest = rest

numbers_above : (t : Space) (p : SentPacket) (ps : List SentPacket) → AllByRecursion (λ q. IsBefore q p) ps → AllByRecursion (λ q. is_owed q.fate ≡ true → is_space t q.space ≡ true) ps
    → is_space t p.space ≡ true → AllByRecursion (λ m. p.number < m) (owed_numbers ps)
numbers_above t p [] before of_space of_p = tt
numbers_above t p (q ∷ ps) before of_space of_p =
    above_if p q ps (is_owed q.fate) (λ owed. number_above t p q before.0 of_p (of_space.0 owed)) (numbers_above t p ps before.1 of_space.1 of_p)

rising_if : (p : SentPacket) (ps : List SentPacket) (owed : Bool) → (owed ≡ true → AllByRecursion (λ m. p.number < m) (owed_numbers ps)) → AreRising (owed_numbers ps)
    → AreRising (map (λ (x : SentPacket). x.number) (if owed then p ∷ owed_of ps else owed_of ps))
rising_if p ps true here rest = (here refl, rest)
rising_if p ps false here rest = rest

pub owed_rise : (t : Space) (ps : List SentPacket) → AreOrdered ps → AllByRecursion (λ p. is_owed p.fate ≡ true → is_space t p.space ≡ true) ps → AreRising (owed_numbers ps)
owed_rise t [] ordered of_space = tt
owed_rise t (p ∷ ps) ordered of_space =
    rising_if p ps (is_owed p.fate) (λ owed. numbers_above t p ps ordered.0 of_space.1 (of_space.0 owed)) (owed_rise t ps ordered.1 of_space.1)

-- ---- what may be named is owed or free

both_or : (e o f : Bool) → (e || (o || f)) ≡ ((e || o) || (e || f))
both_or true o f = refl
both_or false o f = refl

first_or : (e o f : Bool) → (e || (o || f)) ≡ ((e || o) || f)
first_or true o f = refl
first_or false o f = refl

last_or : (e o f : Bool) → (e || (o || f)) ≡ (o || (e || f))
last_or true true f = refl
last_or true false f = refl
last_or false o f = refl

nameable_if : (x n : ℕ) (ns os fs : List ℕ) (a b : Bool) → is_in ns n ≡ (is_in os n || is_in fs n)
    → is_in (if a || b then x ∷ ns else ns) n ≡ (is_in (if a then x ∷ os else os) n || is_in (if b then x ∷ fs else fs) n)
nameable_if x n ns os fs true true is = ap (λ c. nat_eq x n || c) is ∙ both_or (nat_eq x n) (is_in os n) (is_in fs n)
nameable_if x n ns os fs true false is = ap (λ c. nat_eq x n || c) is ∙ first_or (nat_eq x n) (is_in os n) (is_in fs n)
nameable_if x n ns os fs false true is = ap (λ c. nat_eq x n || c) is ∙ last_or (nat_eq x n) (is_in os n) (is_in fs n)
nameable_if x n ns os fs false false is = is

pub owed_or_free : (free : FreePackets) (ps : List SentPacket) (n : ℕ) → is_in (nameable_numbers free ps) n ≡ (is_in (owed_numbers ps) n || is_in (free_numbers free ps) n)
owed_or_free free [] n = refl
owed_or_free free (p ∷ ps) n =
    let owed = is_owed p.fate in
    let left = is_free_by free p in
    let all : nameable_numbers free (p ∷ ps) ≡ (if owed || left then p.number ∷ nameable_numbers free ps else nameable_numbers free ps) = numbers_if (is_nameable_by free) p ps (owed || left) refl in
    let os : owed_numbers (p ∷ ps) ≡ (if owed then p.number ∷ owed_numbers ps else owed_numbers ps) = numbers_if (λ q. is_owed q.fate) p ps owed refl in
    let fs : free_numbers free (p ∷ ps) ≡ (if left then p.number ∷ free_numbers free ps else free_numbers free ps) = numbers_if (is_free_by free) p ps left refl in
    ap (λ (ns : List ℕ). is_in ns n) all
    ∙ (nameable_if p.number n (nameable_numbers free ps) (owed_numbers ps) (free_numbers free ps) owed left (owed_or_free free ps n)
    ∙ sym (ap (λ (ns : List ℕ). is_in ns n || is_in (free_numbers free (p ∷ ps)) n) os
    ∙ ap (λ (ns : List ℕ). is_in (if owed then p.number ∷ owed_numbers ps else owed_numbers ps) n || is_in ns n) fs))

-- none that is free has a number at the end or above it
pub none_past : (free : FreePackets) (ps : List SentPacket) (n : ℕ) → free.end ≤ n → false ≡ is_in (free_numbers free ps) n
none_past free [] n past = refl
none_past free (p ∷ ps) n past =
    sym (not_in (is_free_by free) p ps n
    (λ left same. let low = ltb-true p.number free.end (and_parts (is_flying free.space p) (nat_lt p.number free.end) left).1 in absurd (omega (arith, low, same, past)))
    (sym (none_past free ps n past)))

-- ---- a walk by those that are owed and no others but the free

above : (m : ℕ) (ms : List ℕ) → AllByRecursion (λ x. m < x) ms → (n : ℕ) → is_in ms n ≡ true → m < n
above m [] all n is = cc
above m (x ∷ ms) all n is = elim (or_cases (nat_eq x n) (is_in ms n) is) [
  | inl here ↦ (let at = eqb-true x n here in let less = all.0 in omega (arith, at, less))
  | inr later ↦ above m ms all.1 n later
]

-- each that comes is one of them, or may come
either_from : (test may : ℕ → Bool) (ms : List ℕ) (from : ℕ) → AreNext test may from ms → (n : ℕ) → from ≤ n → test n ≡ true → (is_in ms n || may n) ≡ true
either_from test may [] from next n low named = next n low named
either_from test may (m ∷ ms) from next n low named = elim (cases_order n m) [
  | inl at ↦ or_left (is_in (m ∷ ms) n) (may n) (or_left (nat_eq m n) (is_in ms n) (eq-eqb m n (sym at)))
  | inr (inl below) ↦ or_right (is_in (m ∷ ms) n) (may n) (next.0.before n low below named)
  | inr (inr past) ↦ sym (first_or (nat_eq m n) (is_in ms n) (may n)) ∙ or_right (nat_eq m n) (is_in ms n || may n) (either_from test may ms (m + 1) next.1 n (omega (arith, past)) named)
]

-- and each of them comes
each_from : (test may : ℕ → Bool) (ms : List ℕ) (from : ℕ) → AreNext test may from ms → (n : ℕ) → is_in ms n ≡ true → test n ≡ true
each_from test may [] from next n is = cc
each_from test may (m ∷ ms) from next n is = elim (or_cases (nat_eq m n) (is_in ms n) is) [
  | inl here ↦ subst (λ (k : ℕ). test k ≡ true) (eqb-true m n here) next.0.here
  | inr later ↦ each_from test may ms (m + 1) next.1 n later
]

next_from : (test may : ℕ → Bool) (ms : List ℕ) (from : ℕ) → AreRising ms → ((n : ℕ) → is_in ms n ≡ true → from ≤ n) → ((n : ℕ) → from ≤ n → test n ≡ true → (is_in ms n || may n) ≡ true)
    → ((n : ℕ) → is_in ms n ≡ true → test n ≡ true) → AreNext test may from ms
next_from test may [] from rising low either each = either
next_from test may (m ∷ ms) from rising low either each =
    let here : is_in (m ∷ ms) m ≡ true = or_left (nat_eq m m) (is_in ms m) (eq-eqb m m refl) in
    let first : from ≤ m = low m here in (
      record {
        low = first;
        before = λ n from_n below named. elim (or_cases (is_in (m ∷ ms) n) (may n) (either n from_n named)) [
          | inl one ↦ elim (or_cases (nat_eq m n) (is_in ms n) one) [
            | inl at ↦ (let same = eqb-true m n at in absurd (omega (arith, same, below)))
            | inr later ↦ (let more = above m ms rising.0 n later in absurd (omega (arith, more, below)))
          ]
          | inr left ↦ left
        ];
        here = each m here;
      },
      next_from test may ms (m + 1) rising.1 (λ n there. let more = above m ms rising.0 n there in omega (arith, more))
          (λ n low_n named. elim (or_cases (is_in (m ∷ ms) n) (may n) (either n (omega (arith, first, low_n)) named)) [
            | inl one ↦ elim (or_cases (nat_eq m n) (is_in ms n) one) [
              | inl at ↦ (let same = eqb-true m n at in absurd (omega (arith, same, low_n)))
              | inr later ↦ or_left (is_in ms n) (may n) later
            ]
            | inr left ↦ or_right (is_in ms n) (may n) left
          ])
          (λ n there. each n (or_right (nat_eq m n) (is_in ms n) there)),
    )

-- a walk finds whether ranges name all that are owed, and no others but those that may be named
pub names_by_walk : (ranges : List (ℕ × ℕ)) (owed most : List ℕ) (may : ℕ → Bool) → AreRanges ranges → AreRising owed → ((n : ℕ) → is_in most n ≡ (is_in owed n || may n))
    → AreNext (is_named ranges) may 0 owed ↔ IsTrue (names_between ranges owed most)
names_by_walk ranges owed most may order rising most_is =
    let law = names_between_is ranges owed most order in (
      λ next. law.1 (record {
        only = λ n named. most_is n ∙ either_from (is_named ranges) may owed 0 next n (omega arith) named;
        each = λ n there. each_from (is_named ranges) may owed 0 next n there;
      }),
      λ is. let names = law.0 is in next_from (is_named ranges) may owed 0 rising (λ n there. omega arith)
          (λ n low named. sym (most_is n) ∙ names.only n named) (λ n there. names.each n there),
    )

-- ---- whether any packet is free

free_if : (free : FreePackets) (x : SentPacket) (rest : Bool) (b : Bool) → is_flying free.space x ≡ b → (is_free_by free x || rest) ≡ (if b then nat_lt x.number free.end || rest else rest)
free_if free x rest true is = rw is refl
free_if free x rest false is = rw is refl

higher_if : (free : FreePackets) (x q : SentPacket) (ps : List SentPacket) (b : Bool) → is_flying free.space q ≡ b → is_space free.space x.space ≡ true → nat_lt x.number free.end ≡ false → IsBefore q x → list_any (is_free_by free) ps ≡ false
    → (if b then nat_lt q.number free.end || list_any (is_free_by free) ps else list_any (is_free_by free) ps) ≡ false
higher_if free x q ps true is here out before rest =
    let of_q = (flies_of free.space q is).0 in
    let above : x.number < q.number = before.number (subst (λ (t : Space). is_space t x.space ≡ true) (space_is free.space q.space of_q) here) in
    let low = ltb-false x.number free.end out in
    ap (λ b. b || list_any (is_free_by free) ps) (le-ltb q.number free.end (omega (arith, above, low))) ∙ rest
higher_if free x q ps false is here out before rest = rest

none_higher : (free : FreePackets) (x : SentPacket) (ps : List SentPacket) → is_space free.space x.space ≡ true → nat_lt x.number free.end ≡ false → AllByRecursion (λ q. IsBefore q x) ps → list_any (is_free_by free) ps ≡ false
none_higher free x [] here out before = refl
none_higher free x (q ∷ ps) here out before =
    free_if free q (list_any (is_free_by free) ps) (is_flying free.space q) refl
    ∙ higher_if free x q ps (is_flying free.space q) refl here out before.0 (none_higher free x ps here out before.1)

any_at : (free : FreePackets) (x : SentPacket) (ps : List SentPacket) → is_space free.space x.space ≡ true → AllByRecursion (λ q. IsBefore q x) ps → (nat_lt x.number free.end || list_any (is_free_by free) ps) ≡ nat_lt x.number free.end
any_at free x ps here before = elim (cases_Bool (nat_lt x.number free.end)) [
  | inl low ↦ rw low refl
  | inr out ↦ rw out (none_higher free x ps here out before)
]

none_step : (free : FreePackets) (x : SentPacket) (ps : List SentPacket) (b : Bool) → is_flying free.space x ≡ b → (find (is_flying free.space) ps ≡ None → false ≡ list_any (is_free_by free) ps)
    → find (is_flying free.space) (x ∷ ps) ≡ None
    → (if b then nat_lt x.number free.end || list_any (is_free_by free) ps else list_any (is_free_by free) ps) ≡ false
none_step free x ps true is more none = let some = rw is at none in cc
none_step free x ps false is more none = let rest = rw is at none in sym (more rest)

-- where none flies none is free
pub none_free : (free : FreePackets) (ps : List SentPacket) → find (is_flying free.space) ps ≡ None → false ≡ list_any (is_free_by free) ps
none_free free [] none = refl
none_free free (x ∷ ps) none =
    sym (free_if free x (list_any (is_free_by free) ps) (is_flying free.space x) refl ∙ none_step free x ps (is_flying free.space x) refl (none_free free ps) none)

some_is : (x p : SentPacket) → ◌≡◌ {A = Option SentPacket} (Some x) (Some p) → x ≡ p
some_is x p same = ap (λ (o : Option SentPacket). elim o [ None ↦ x | Some z ↦ z ]) same

first_step : (free : FreePackets) (x : SentPacket) (ps : List SentPacket) (p : SentPacket) (b : Bool) → is_flying free.space x ≡ b → (AreOrdered ps → find (is_flying free.space) ps ≡ Some p → nat_lt p.number free.end ≡ list_any (is_free_by free) ps)
    → AreOrdered (x ∷ ps) → find (is_flying free.space) (x ∷ ps) ≡ Some p
    → (if b then nat_lt x.number free.end || list_any (is_free_by free) ps else list_any (is_free_by free) ps) ≡ nat_lt p.number free.end
first_step free x ps p true is more ordered some =
    let same : ◌≡◌ {A = Option SentPacket} (Some x) (Some p) = rw is at some in
    any_at free x ps (flies_of free.space x is).0 ordered.0 ∙ ap (λ (z : SentPacket). nat_lt z.number free.end) (some_is x p same)
first_step free x ps p false is more ordered some = let rest = rw is at some in sym (more ordered.1 rest)

-- the first that flies tells
pub first_tells : (free : FreePackets) (ps : List SentPacket) (p : SentPacket) → AreOrdered ps → find (is_flying free.space) ps ≡ Some p → nat_lt p.number free.end ≡ list_any (is_free_by free) ps
first_tells free [] p ordered some = cc
first_tells free (x ∷ ps) p ordered some =
    sym (free_if free x (list_any (is_free_by free) ps) (is_flying free.space x) refl ∙ first_step free x ps p (is_flying free.space x) refl (first_tells free ps p) ordered some)
