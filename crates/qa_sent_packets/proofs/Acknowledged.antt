-- Covering the packets of a space, number by number, range by range.
use Rattle.std.proofs.Common.{◌≡◌, ◌∙◌, ℕ, zero, suc, ◌+◌, ◌-◌, ◌<◌, Bool, true, false, ◌&&◌, ◌||◌, List, [], ◌∷◌, ◌++◌, length, get_or, set, map, take, add-one, refl, sym, ap, subst, arith, inl, inr, Option, Some, None}
use Rattle.std.specs.Prelude.{if◌then◌else◌}
use Rattle.std.proofs.lemmas.Bool.{and_parts, cases_Bool}
use Rattle.std.proofs.lemmas.List.{length-map, take-map}
use Rattle.qa_base.specs.declared.space.Space.{Space}
use Rattle.qa_base.specs.values.Events.{is_space, is_named}
use Rattle.qa_sent_packets.specs.Covering.{covered_in, first_between, is_between}
use Rattle.qa_sent_packets.specs.Fates.{is_flying, is_owed, is_waiting}
use Rattle.qa_sent_packets.specs.Held.{IsBehind, NoneFlies, unacknowledged_in}
use Rattle.qa_sent_packets.specs.Steps.{covered_by, with_fate}
use Rattle.qa_sent_packets.specs.declared.fate.Fate.TheVariants.{Acknowledged}
use Rattle.qa_sent_packets.specs.declared.packet.SentPacket.{SentPacket}
use Rattle.qa_sent_packets.proofs.Alike.{IsAlike, IsSame, alike_if, alike_other, not_other, same_if}
use Rattle.qa_sent_packets.proofs.Entries.{not_waiting, waits_here}
use Rattle.qa_sent_packets.proofs.Parts.{each_map}

-- ---- one packet

pub stays_by : (waits within : Bool) (p : SentPacket) → (waits ≡ true → within ≡ false) → (if waits && within then with_fate Acknowledged p else p) ≡ p
stays_by true true p none = let no' : true ≡ false = none refl in cc
stays_by true false p none = refl
stays_by false within p none = refl

stays : (s : Space) (lo hi : ℕ) (p : SentPacket) → (is_waiting s p ≡ true → is_between lo hi p.number ≡ false) → covered_in s lo hi p ≡ p
stays s lo hi p none = stays_by (is_waiting s p) (is_between lo hi p.number) p none

off : (b c : Bool) → b ≡ false → (b && c) ≡ false
off true c out = cc
off false c out = refl

again : (s : Space) (lo hi : ℕ) (p : SentPacket) → is_waiting s p ≡ true → is_between lo hi p.number ≡ true → covered_in s lo hi (with_fate Acknowledged p) ≡ covered_in s lo hi p
again s lo hi p waits within =
    ap (λ b. if b then with_fate Acknowledged p else with_fate Acknowledged p) (off (is_waiting s (with_fate Acknowledged p)) (is_between lo hi p.number) (not_waiting s Acknowledged p refl))
    ∙ rw (waits, within) refl

-- a packet that is covered was to be covered
pub cover_written : (s : Space) (lo hi : ℕ) (ps : List SentPacket) (at : ℕ) (p : SentPacket) → p ≡ get_or ps at p → is_waiting s p ≡ true → is_between lo hi p.number ≡ true
    → map (covered_in s lo hi) (set ps at (with_fate Acknowledged p)) ≡ map (covered_in s lo hi) ps
cover_written s lo hi [] at p is waits within = refl
cover_written s lo hi (x ∷ ps) zero p is waits within = ap (λ y. y ∷ map (covered_in s lo hi) ps) (again s lo hi p waits within ∙ ap (covered_in s lo hi) is)
cover_written s lo hi (x ∷ ps) (suc at) p is waits within = ap (λ xs. covered_in s lo hi x ∷ xs) (cover_written s lo hi ps at p is waits within)

-- where no entry is between the two numbers, nothing is left to be covered
pub nothing_left : (s : Space) (d lo hi : ℕ) (ps : List SentPacket) → first_between lo hi (unacknowledged_in s d ps) ≡ None → map (covered_in s lo hi) ps ≡ ps
nothing_left s d lo hi [] e = refl
nothing_left s d lo hi (x ∷ ps) e = elim (cases_Bool (is_waiting s x)) [
  | inl y ↦ elim (cases_Bool (is_between lo hi x.number)) [
    | inl k ↦ (let got : ◌≡◌ {A = Option (ℕ × ℕ)} (Some (x.number, d)) None = rw (y, k) at e in cc)
    | inr out ↦ (
        let here : covered_in s lo hi x ≡ x = stays s lo hi x (λ z. out) in
        ap (λ z. z ∷ map (covered_in s lo hi) ps) here ∙ ap (λ xs. x ∷ xs) (nothing_left s (suc d) lo hi ps (rw (y, out) at e)))
  ]
  | inr out ↦ (
      let here : covered_in s lo hi x ≡ x = stays s lo hi x (λ z. cc) in
      ap (λ z. z ∷ map (covered_in s lo hi) ps) here ∙ ap (λ xs. x ∷ xs) (nothing_left s (suc d) lo hi ps (rw out at e)))
]

-- ---- ranges

and_false : (b : Bool) → (b && false) ≡ false
and_false true = refl
and_false false = refl

or_false : (b : Bool) → (b || false) ≡ b
or_false true = refl
or_false false = refl

or_more : (a b t : Bool) → (a || (b || t)) ≡ ((a || b) || t)
or_more true b t = refl
or_more false b t = refl

pub named_more : (n : ℕ) (ranges : List (ℕ × ℕ)) (range : ℕ × ℕ) → is_named (ranges ++ range ∷ []) n ≡ (is_named ranges n || is_between range.0 range.1 n)
named_more n [] range = or_false (is_between range.0 range.1 n)
named_more n (x ∷ ranges) range = ap (λ b. is_between x.0 x.1 n || b) (named_more n ranges range) ∙ or_more (is_between x.0 x.1 n) (is_named ranges n) (is_between range.0 range.1 n)

by_both : (s : Space) (p : SentPacket) (range : ℕ × ℕ) (waits named within : Bool) → is_waiting s p ≡ waits → is_between range.0 range.1 p.number ≡ within
    → covered_in s range.0 range.1 (if waits && named then with_fate Acknowledged p else p) ≡ (if waits && (named || within) then with_fate Acknowledged p else p)
by_both s p range true true within waits is =
    ap (λ b. if b then with_fate Acknowledged p else with_fate Acknowledged p) (off (is_waiting s (with_fate Acknowledged p)) (is_between range.0 range.1 p.number) (not_waiting s Acknowledged p refl))
by_both s p range true false true waits is = rw (waits, is) refl
by_both s p range true false false waits is = rw (waits, is) refl
by_both s p range false named within waits is = rw waits refl

-- a range more
pub cover_more : (s : Space) (ranges : List (ℕ × ℕ)) (range : ℕ × ℕ) (ps : List SentPacket) → map (covered_in s range.0 range.1) (map (covered_by s ranges) ps) ≡ map (covered_by s (ranges ++ range ∷ [])) ps
cover_more s ranges range [] = refl
cover_more s ranges range (p ∷ ps) =
    ap (λ x. x ∷ map (covered_in s range.0 range.1) (map (covered_by s ranges) ps))
    (by_both s p range (is_waiting s p) (is_named ranges p.number) (is_between range.0 range.1 p.number) refl refl
    ∙ ap (λ b. if is_waiting s p && b then with_fate Acknowledged p else p) (sym (named_more p.number ranges range)))
    ∙ ap (λ xs. covered_by s (ranges ++ range ∷ []) p ∷ xs) (cover_more s ranges range ps)

pub take_more : (i : ℕ) (xs : List (ℕ × ℕ)) (x : ℕ × ℕ) → i < length xs → x ≡ get_or xs i x → take (i + 1) xs ≡ take i xs ++ x ∷ []
take_more i [] x within is = absurd (omega arith)
take_more zero (y ∷ xs) x within is = ap (λ z. z ∷ []) (sym is)
take_more (suc i) (y ∷ xs) x within is =
    let rest = take_more i xs x (omega arith) is in
    rw (add-one (suc i)) (ap (λ zs. y ∷ zs) (rw (add-one i) at rest))

-- the next of them
pub cover_next : (s : Space) (ranges : List (ℕ × ℕ)) (i lo hi : ℕ) (range : ℕ × ℕ) (ps before after : List SentPacket) → i < length ranges → range ≡ get_or ranges i range → lo ≡ range.0 → hi ≡ range.1
    → before ≡ map (covered_by s (take i ranges)) ps → after ≡ map (covered_in s lo hi) before → after ≡ map (covered_by s (take (i + 1) ranges)) ps
cover_next s ranges i lo hi range ps before after within is lo_is hi_is so_far here =
    here
    ∙ (ap (λ n. map (covered_in s n hi) before) lo_is
    ∙ (ap (λ n. map (covered_in s range.0 n) before) hi_is
    ∙ (ap (map (covered_in s range.0 range.1)) so_far
    ∙ (cover_more s (take i ranges) range ps
    ∙ ap (λ rs. map (covered_by s rs) ps) (sym (take_more i ranges range within is))))))

not_last : (a b : Bool) → (a && (b && false)) ≡ false
not_last true true = refl
not_last true false = refl
not_last false b = refl

-- ---- what covering leaves as it was

pub covered_same : (s : Space) (ranges : List (ℕ × ℕ)) (p : SentPacket) → IsSame p (covered_by s ranges p)
covered_same s ranges p = same_if (is_waiting s p && is_named ranges p.number) Acknowledged p

not_owed_if : (b : Bool) (p : SentPacket) → is_owed p.fate ≡ false → is_owed (if b then with_fate Acknowledged p else p).fate ≡ false
not_owed_if true p none = refl
not_owed_if false p none = none

pub covered_not_owed : (s : Space) (ranges : List (ℕ × ℕ)) (p : SentPacket) → is_owed p.fate ≡ false → is_owed (covered_by s ranges p).fate ≡ false
covered_not_owed s ranges p none = not_owed_if (is_waiting s p && is_named ranges p.number) p none

pub covered_alike : (s : Space) (ranges : List (ℕ × ℕ)) (t : Space) → is_space t s ≡ false → (p : SentPacket) → IsAlike t p (covered_by s ranges p)
covered_alike s ranges t out p =
    alike_if t (is_waiting s p && is_named ranges p.number) Acknowledged p
    (λ y. alike_other t Acknowledged p (not_other t s p out (waits_here s p (and_parts (is_waiting s p) (is_named ranges p.number) y).0)))

grounded_if : (s : Space) (b : Bool) (p : SentPacket) → is_flying s p ≡ false → is_flying s (if b then with_fate Acknowledged p else p) ≡ false
grounded_if s true p out = not_last (is_space s p.space) p.in_flight
grounded_if s false p out = out

pub covered_behind : (s : Space) (ranges : List (ℕ × ℕ)) (d : ℕ) (ps : List SentPacket) (next : ℕ) → IsBehind s d ps next → IsBehind s d (map (covered_by s ranges) ps) next
covered_behind s ranges d ps next b =
    let long : length (map (covered_by s ranges) ps) ≡ length ps = length-map ps (covered_by s ranges) in
    let high = b.high in
    record {
      low = b.low;
      high = omega (arith, high, long);
      none = subst (NoneFlies s) (sym (take-map (covered_by s ranges) (next - d) ps))
          (each_map (λ p. is_flying s p ≡ false) (λ p. is_flying s p ≡ false) (covered_by s ranges) (λ p out. grounded_if s (is_waiting s p && is_named ranges p.number) p out) (take (next - d) ps) b.none);
    }

-- ranges that name the same numbers
pub covered_named : (s : Space) (ranges others : List (ℕ × ℕ)) (ps : List SentPacket) → ((n : ℕ) → is_named ranges n ≡ is_named others n) → map (covered_by s ranges) ps ≡ map (covered_by s others) ps
covered_named s ranges others [] same = refl
covered_named s ranges others (p ∷ ps) same =
    ap (λ b. (if is_waiting s p && b then with_fate Acknowledged p else p) ∷ map (covered_by s ranges) ps) (same p.number)
    ∙ ap (λ qs. covered_by s others p ∷ qs) (covered_named s ranges others ps same)
