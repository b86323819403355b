-- The entries of the unacknowledged packets: where they lead, and what changes them.
use Rattle.std.proofs.Common.{◌≡◌, ◌∙◌, ℕ, zero, suc, ◌+◌, ◌-◌, ◌≤◌, ◌<◌, Bool, true, false, cond, ◌&&◌, List, [], ◌∷◌, ◌++◌, length, get_or, set, refl, sym, ap, subst, arith, inl, inr, Option, Some, None}
use Rattle.std.specs.Prelude.{if◌then◌else◌, nat_le, slice_get}
use Rattle.std.specs.List.{AllByRecursion}
use Rattle.std.specs.declared.cmp.Ordering.TheVariants.{Greater}
use Rattle.std.specs.Map.{remove_entry}
use Rattle.std.specs.BTreeMap.{is_at, insert_entry}
use Rattle.std.specs.BTreeMap.Range.{entries_between, range_contains}
use Rattle.std.specs.Ordering.{nat_cmp, is_eq, match_ordering}
use Rattle.std.specs.declared.ops.Bound.TheVariants.{Included, Unbounded}
use Rattle.std.proofs.lemmas.Bool.{cases_Bool, and_parts}
use Rattle.std.proofs.lemmas.Bool.Decides.{nat_tests}
use Rattle.qa_base.specs.declared.space.Space.{Space}
use Rattle.qa_base.specs.values.Events.{is_space}
use Rattle.qa_sent_packets.specs.Covering.{first_between, first_from, is_between}
use Rattle.qa_sent_packets.specs.Fates.{is_unacknowledged, is_waiting}
use Rattle.qa_sent_packets.specs.Held.{unacknowledged_in}
use Rattle.qa_sent_packets.specs.Steps.{with_fate}
use Rattle.qa_sent_packets.specs.declared.fate.Fate.{Fate}
use Rattle.qa_sent_packets.specs.declared.packet.SentPacket.{SentPacket}

-- ---- entries by their numbers

pub from_test : (lo q : ℕ) → range_contains nat_cmp (Included lo) Unbounded q ≡ nat_le lo q
from_test lo q = grind (arith, nat_tests)

first_if : (e : ℕ × ℕ) (es : List (ℕ × ℕ)) (o : Option (ℕ × ℕ)) (b : Bool) → o ≡ slice_get es 0 → (if b then Some e else o) ≡ slice_get (if b then e ∷ es else es) 0
first_if e es o true is = refl
first_if e es o false is = is

-- the first entry from a number on, as a map has it
pub first_of_part : (lo : ℕ) (es : List (ℕ × ℕ)) → first_from lo es ≡ slice_get (entries_between nat_cmp (Included lo) Unbounded es) 0
first_of_part lo [] = refl
first_of_part lo (e ∷ es) = rw (from_test lo e.0) (first_if e (entries_between nat_cmp (Included lo) Unbounded es) (first_from lo es) (nat_le lo e.0) (first_of_part lo es))

pub at_key : (n q : ℕ) → is_eq (nat_cmp n q) ≡ is_between n n q
at_key n q = grind (arith, nat_tests)

pub between_one : (n q : ℕ) → is_between n n q ≡ true → q ≡ n
between_one n q e = grind (arith, nat_tests)

first_other : (lo hi n q : ℕ) → is_between lo hi q ≡ false → lo ≤ n → n ≤ hi → is_between n n q ≡ false
first_other lo hi n q out low high = grind (arith, nat_tests)

pub alone : (n : ℕ) → is_between n n n ≡ true
alone n = grind (arith, nat_tests)

pub low_of : (lo hi n : ℕ) → is_between lo hi n ≡ true → lo ≤ n
low_of lo hi n e = grind (arith, nat_tests)

pub high_of : (lo hi n : ℕ) → is_between lo hi n ≡ true → n ≤ hi
high_of lo hi n e = grind (arith, nat_tests)

pub in_range : (lo hi n : ℕ) → lo ≤ n → n ≤ hi → is_between lo hi n ≡ true
in_range lo hi n low high = grind (arith, nat_tests)

-- the first entry of a range is the first with its number
pub first_alone : (lo hi : ℕ) (es : List (ℕ × ℕ)) (n place : ℕ) → first_between lo hi es ≡ Some (n, place) → (first_between n n es ≡ Some (n, place)) × (lo ≤ n) × (n ≤ hi)
first_alone lo hi [] n place e = cc
first_alone lo hi (x ∷ es) n place e = elim (cases_Bool (is_between lo hi x.0)) [
  | inl y ↦ (
      let got : Some x ≡ Some (n, place) = rw y at e in
      let key : x.0 ≡ n = ap (λ (o : Option (ℕ × ℕ)). elim o [ None ↦ 0 | Some z ↦ z.0 ]) got in
      let there : is_between lo hi n ≡ true = ap (is_between lo hi) (sym key) ∙ y in
      let here : is_between n n x.0 ≡ true = ap (is_between n n) key ∙ alone n in
      (rw here got, low_of lo hi n there, high_of lo hi n there))
  | inr out ↦ (
      let rest = first_alone lo hi es n place (rw out at e) in
      let other : is_between n n x.0 ≡ false = first_other lo hi n x.0 out rest.1 rest.2 in
      (rw other rest.0, rest.1, rest.2))
]

pub removes : (n : ℕ) (x : ℕ × ℕ) (es : List (ℕ × ℕ)) → is_between n n x.0 ≡ true → remove_entry (is_at (nat_cmp n)) (x ∷ es) ≡ es
removes n x es k = ap (λ b. cond b es (x ∷ remove_entry (is_at (nat_cmp n)) es)) (at_key n x.0 ∙ k)

pub leaves : (n : ℕ) (x : ℕ × ℕ) (es : List (ℕ × ℕ)) → is_between n n x.0 ≡ false → remove_entry (is_at (nat_cmp n)) (x ∷ es) ≡ x ∷ remove_entry (is_at (nat_cmp n)) es
leaves n x es k = ap (λ b. cond b es (x ∷ remove_entry (is_at (nat_cmp n)) es)) (at_key n x.0 ∙ k)

pub removed_length : (n : ℕ) (es : List (ℕ × ℕ)) (e : ℕ × ℕ) → first_between n n es ≡ Some e → length (remove_entry (is_at (nat_cmp n)) es) + 1 ≡ length es
removed_length n [] e is = cc
removed_length n (x ∷ es) e is = elim (cases_Bool (is_between n n x.0)) [
  | inl y ↦ (let l = ap length (removes n x es y) in omega (arith, l))
  | inr out ↦ (let l = ap length (leaves n x es out) in let rest = removed_length n es e (rw out at is) in omega (arith, l, rest))
]

-- ---- the packet that an entry leads to

pub waits_here : (s : Space) (p : SentPacket) → is_waiting s p ≡ true → is_space s p.space ≡ true
waits_here s p w = (and_parts (is_space s p.space) (is_unacknowledged p.fate) w).0

-- with a fate of which no entry is kept
pub not_waiting : (s : Space) (f : Fate) (p : SentPacket) → is_unacknowledged f ≡ false → is_waiting s (with_fate f p) ≡ false
not_waiting s f p out = rw out (elim (is_space s p.space) as (λ b. (b && false) ≡ false) [ true ↦ refl | false ↦ refl ])

-- at this index stands a packet of the space with this number, of which an entry is kept
pub record IsFound (s : Space) (d n at : ℕ) (ps : List SentPacket) : Type 0 where
  pub within : at < length ps
  pub waits : (p : SentPacket) → p ≡ get_or ps at p → is_waiting s p ≡ true
  pub number : (p : SentPacket) → p ≡ get_or ps at p → p.number ≡ n
  pub written : (f : Fate) (p : SentPacket) → is_unacknowledged f ≡ false → p ≡ get_or ps at p → unacknowledged_in s d (set ps at (with_fate f p)) ≡ remove_entry (is_at (nat_cmp n)) (unacknowledged_in s d ps)

kept_if : (n d : ℕ) (p : SentPacket) (es fs : List (ℕ × ℕ)) (b : Bool) → (b ≡ true → is_between n n p.number ≡ false) → es ≡ remove_entry (is_at (nat_cmp n)) fs
    → (if b then (p.number, d) ∷ es else es) ≡ remove_entry (is_at (nat_cmp n)) (if b then (p.number, d) ∷ fs else fs)
kept_if n d p es fs true other is = ap (λ xs. (p.number, d) ∷ xs) is ∙ sym (leaves n (p.number, d) fs (other refl))
kept_if n d p es fs false other is = is

behind : (s : Space) (d n at : ℕ) (x : SentPacket) (ps : List SentPacket) → (is_waiting s x ≡ true → is_between n n x.number ≡ false) → IsFound s (suc d) n at ps → IsFound s d n (suc at) (x ∷ ps)
behind s d n at x ps other found = record {
  within = omega (arith, found.within);
  waits = λ p is. found.waits p is;
  number = λ p is. found.number p is;
  written = λ f p out is. kept_if n d x (unacknowledged_in s (suc d) (set ps at (with_fate f p))) (unacknowledged_in s (suc d) ps) (is_waiting s x) other (found.written f p out is);
}

first_written : (s : Space) (d n : ℕ) (f : Fate) (x p : SentPacket) (ps : List SentPacket) → is_unacknowledged f ≡ false → is_waiting s x ≡ true → is_between n n x.number ≡ true
    → unacknowledged_in s d (with_fate f p ∷ ps) ≡ remove_entry (is_at (nat_cmp n)) (unacknowledged_in s d (x ∷ ps))
first_written s d n f x p ps out y k =
    ap (λ b. if b then (p.number, d) ∷ unacknowledged_in s (suc d) ps else unacknowledged_in s (suc d) ps) (not_waiting s f p out)
    ∙ (sym (removes n (x.number, d) (unacknowledged_in s (suc d) ps) k)
    ∙ ap (λ b. remove_entry (is_at (nat_cmp n)) (if b then (x.number, d) ∷ unacknowledged_in s (suc d) ps else unacknowledged_in s (suc d) ps)) (sym y))

find_entry : (s : Space) (d n place : ℕ) (ps : List SentPacket) → first_between n n (unacknowledged_in s d ps) ≡ Some (n, place) → (at : ℕ) × (place ≡ d + at) × IsFound s d n at ps
find_entry s d n place [] e = cc
find_entry s d n place (x ∷ ps) e = elim (cases_Bool (is_waiting s x)) [
  | inl y ↦ elim (cases_Bool (is_between n n x.number)) [
    | inl k ↦ (
        let got : ◌≡◌ {A = Option (ℕ × ℕ)} (Some (x.number, d)) (Some (n, place)) = rw (y, k) at e in
        let where_it_is : d ≡ place = ap (λ (o : Option (ℕ × ℕ)). elim o [ None ↦ 0 | Some z ↦ z.1 ]) got in (
          0,
          omega arith,
          record {
            within = omega arith;
            waits = λ p is. ap (is_waiting s) is ∙ y;
            number = λ p is. ap (λ (z : SentPacket). z.number) is ∙ between_one n x.number k;
            written = λ f p out is. first_written s d n f x p ps out y k;
          },
        ))
    | inr out ↦ (
        let rest = find_entry s (suc d) n place ps (rw (y, out) at e) in
        (suc rest.0, omega (arith, rest.1), behind s d n rest.0 x ps (λ z. out) rest.2))
  ]
  | inr out ↦ (
      let rest = find_entry s (suc d) n place ps (rw out at e) in
      (suc rest.0, omega (arith, rest.1), behind s d n rest.0 x ps (λ z. cc) rest.2))
]

-- where an entry leads
pub found_at : (s : Space) (d n place : ℕ) (ps : List SentPacket) (es : List (ℕ × ℕ)) → es ≡ unacknowledged_in s d ps → first_between n n es ≡ Some (n, place) → (d ≤ place) × IsFound s d n (place - d) ps
found_at s d n place ps es is first =
    let f = find_entry s d n place ps (ap (first_between n n) (sym is) ∙ first) in
    let at : f.0 ≡ place - d = omega (arith, f.1) in
    (omega (arith, f.1), subst (λ k. IsFound s d n k ps) at f.2)

pub found_here : (s : Space) (d n at : ℕ) (ps : List SentPacket) (p : SentPacket) → IsFound s d n at ps → p ≡ get_or ps at p → is_space s p.space ≡ true
found_here s d n at ps p found is = waits_here s p (found.waits p is)

-- a write that leaves the number, and whether an entry is kept, leaves the entries
pub same_entries : (s : Space) (d : ℕ) (ps : List SentPacket) (at : ℕ) (p x : SentPacket) → p ≡ get_or ps at p → x.number ≡ p.number → is_waiting s x ≡ is_waiting s p
    → unacknowledged_in s d (set ps at x) ≡ unacknowledged_in s d ps
same_entries s d [] at p x is number waits = refl
same_entries s d (y ∷ ps) zero p x is number waits =
    let same : p ≡ y = is in
    rw (number, waits) (ap (λ (z : SentPacket). if is_waiting s z then (z.number, d) ∷ unacknowledged_in s (suc d) ps else unacknowledged_in s (suc d) ps) same)
same_entries s d (y ∷ ps) (suc at) p x is number waits =
    ap (λ es. if is_waiting s y then (y.number, d) ∷ es else es) (same_entries s (suc d) ps at p x is number waits)

-- ---- a packet behind the others

after_all : (k m : ℕ) → m < k → nat_cmp k m ≡ Greater
after_all k m above = grind (arith, nat_tests)

pub enters_last : {X : Type 0} (n : ℕ) (place : X) (es : List (ℕ × X)) → AllByRecursion (λ e. e.0 < n) es → insert_entry nat_cmp es n place ≡ es ++ (n, place) ∷ []
enters_last n place [] above = refl
enters_last n place (e ∷ es) above =
    ap (λ o. match_ordering o ((n, place) ∷ e ∷ es) ((e.0, place) ∷ es) (e ∷ insert_entry nat_cmp es n place)) (after_all n e.0 above.0)
    ∙ ap (λ xs. e ∷ xs) (enters_last n place es above.1)

push_if : (m d : ℕ) (es fs gs : List (ℕ × ℕ)) (b : Bool) → es ≡ fs ++ gs → (if b then (m, d) ∷ es else es) ≡ (if b then (m, d) ∷ fs else fs) ++ gs
push_if m d es fs gs true is = ap (λ xs. (m, d) ∷ xs) is
push_if m d es fs gs false is = is

-- a packet more, of which an entry is kept
pub unacknowledged_push : (s : Space) (d : ℕ) (ps : List SentPacket) (p : SentPacket) → is_waiting s p ≡ true → unacknowledged_in s d (ps ++ p ∷ []) ≡ unacknowledged_in s d ps ++ (p.number, d + length ps) ∷ []
unacknowledged_push s d [] p waits =
    let place : d ≡ d + 0 = omega arith in
    ap (λ b. if b then (p.number, d) ∷ [] else []) waits ∙ ap (λ k. (p.number, k) ∷ []) place
unacknowledged_push s d (x ∷ ps) p waits =
    let rest = unacknowledged_push s (suc d) ps p waits in
    let place : suc d + length ps ≡ d + length (x ∷ ps) = omega arith in
    push_if x.number d (unacknowledged_in s (suc d) (ps ++ p ∷ [])) (unacknowledged_in s (suc d) ps) ((p.number, d + length (x ∷ ps)) ∷ []) (is_waiting s x)
    (rest ∙ ap (λ k. unacknowledged_in s (suc d) ps ++ (p.number, k) ∷ []) place)

-- a packet more, of which none is kept
pub unacknowledged_push_other : (s : Space) (d : ℕ) (ps : List SentPacket) (p : SentPacket) → is_waiting s p ≡ false → unacknowledged_in s d (ps ++ p ∷ []) ≡ unacknowledged_in s d ps
unacknowledged_push_other s d [] p out = ap (λ b. if b then (p.number, d) ∷ [] else []) out
unacknowledged_push_other s d (x ∷ ps) p out = ap (λ es. if is_waiting s x then (x.number, d) ∷ es else es) (unacknowledged_push_other s (suc d) ps p out)

-- ---- the front of the packets

pub uncovered_rest : (s : Space) (d : ℕ) (p : SentPacket) (ps : List SentPacket) → is_waiting s p ≡ false → unacknowledged_in s d (p ∷ ps) ≡ unacknowledged_in s (suc d) ps
uncovered_rest s d p ps out = rw out refl

pub uncovered_front : (s : Space) (d : ℕ) (p : SentPacket) (ps : List SentPacket) → is_waiting s p ≡ true → remove_entry (is_at (nat_cmp p.number)) (unacknowledged_in s d (p ∷ ps)) ≡ unacknowledged_in s (suc d) ps
uncovered_front s d p ps waits =
    ap (λ b. remove_entry (is_at (nat_cmp p.number)) (if b then (p.number, d) ∷ unacknowledged_in s (suc d) ps else unacknowledged_in s (suc d) ps)) waits
    ∙ removes p.number (p.number, d) (unacknowledged_in s (suc d) ps) (alone p.number)

-- ---- how many they are

fewer_if : (b : Bool) (e : ℕ × ℕ) (es : List (ℕ × ℕ)) (n : ℕ) → length es ≤ n → length (if b then e ∷ es else es) ≤ suc n
fewer_if true e es n is = omega (arith, is)
fewer_if false e es n is = omega (arith, is)

pub fewer_entries : (s : Space) (d : ℕ) (ps : List SentPacket) → length (unacknowledged_in s d ps) ≤ length ps
fewer_entries s d [] = omega arith
fewer_entries s d (p ∷ ps) = fewer_if (is_waiting s p) (p.number, d) (unacknowledged_in s (suc d) ps) (length ps) (fewer_entries s (suc d) ps)
