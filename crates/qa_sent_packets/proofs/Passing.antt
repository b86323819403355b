-- Spans that are passed by a walk along the entries of the map: they name none.
use Rattle.std.proofs.Common.{◌≡◌, ◌∙◌, ℕ, zero, suc, ◌+◌, ◌≤◌, ◌<◌, Bool, true, false, cond, ◌&&◌, ◌||◌, List, [], ◌∷◌, ◌++◌, length, get_or, map, take, filter, refl, sym, ap, arith, Option, Some, None}
use Rattle.std.specs.Prelude.{if◌then◌else◌, nat_le}
use Rattle.std.specs.List.{AllByRecursion}
use Rattle.std.specs.BTreeMap.Range.{entries_between}
use Rattle.std.specs.Ordering.{nat_cmp}
use Rattle.std.specs.declared.ops.Bound.TheVariants.{Included, Unbounded}
use Rattle.std.proofs.lemmas.Bool.{le-leb, leb-false, leb-true, lt-leb}
use Rattle.qa_base.specs.declared.space.Space.{Space}
use Rattle.qa_base.specs.values.Events.{is_named, is_space}
use Rattle.qa_sent_packets.specs.Covering.{AreApart, AreApartFrom, NamesNone, first_between, first_from, is_between}
use Rattle.qa_sent_packets.specs.Fates.{is_new, is_open, is_unacknowledged, is_waiting}
use Rattle.qa_sent_packets.specs.Held.{unacknowledged_in}
use Rattle.qa_sent_packets.specs.Naming.{EndsBelow}
use Rattle.qa_sent_packets.specs.Steps.{covered_by}
use Rattle.qa_sent_packets.specs.Unacknowledged.{EntriesRise}
use Rattle.qa_sent_packets.specs.declared.packet.SentPacket.{SentPacket}
use Rattle.qa_sent_packets.proofs.Acknowledged.{stays_by}
use Rattle.qa_sent_packets.proofs.Entries.{from_test}
use Rattle.qa_sent_packets.proofs.Opened.{open_unacknowledged, rests_apart}
use Rattle.qa_sent_packets.proofs.Parts.{each_weaker}
use Rattle.qa_sent_packets.proofs.Rising.{clear_first, none_in}

-- ---- the entries of the map from a number on

abbrev pub part_from : ℕ → List (ℕ × ℕ) → List (ℕ × ℕ)
part_from lo es = entries_between nat_cmp (Included lo) Unbounded es

step_in : (lo : ℕ) (e : ℕ × ℕ) (es : List (ℕ × ℕ)) → part_from lo (e ∷ es) ≡ cond (nat_le lo e.0) (e ∷ part_from lo es) (part_from lo es)
step_in lo e es = ap (λ b. cond b (e ∷ part_from lo es) (part_from lo es)) (from_test lo e.0)

each_if : (P : ℕ × ℕ → Type 0) (b : Bool) (e : ℕ × ℕ) (es : List (ℕ × ℕ)) → (b ≡ true → P e) → AllByRecursion P es → AllByRecursion P (cond b (e ∷ es) es)
each_if P true e es here rest = (here refl, rest)
each_if P false e es here rest = rest

each_part : (P : ℕ × ℕ → Type 0) (lo : ℕ) (es : List (ℕ × ℕ)) → AllByRecursion P es → AllByRecursion P (part_from lo es)
each_part P lo [] all = tt
each_part P lo (e ∷ es) all = rw (step_in lo e es) (each_if P (nat_le lo e.0) e (part_from lo es) (λ y. all.0) (each_part P lo es all.1))

pub part_above : (lo : ℕ) (es : List (ℕ × ℕ)) → AllByRecursion (λ e. lo ≤ e.0) (part_from lo es)
part_above lo [] = tt
part_above lo (e ∷ es) = rw (step_in lo e es) (each_if (λ f. lo ≤ f.0) (nat_le lo e.0) e (part_from lo es) (λ y. leb-true lo e.0 y) (part_above lo es))

rise_if : (b : Bool) (e : ℕ × ℕ) (es : List (ℕ × ℕ)) → AllByRecursion (λ f. e.0 < f.0) es → EntriesRise es → EntriesRise (cond b (e ∷ es) es)
rise_if true e es above rise = (above, rise)
rise_if false e es above rise = rise

front_all : (P : ℕ × ℕ → Type 0) (es fs : List (ℕ × ℕ)) → AllByRecursion P (es ++ fs) → AllByRecursion P es
front_all P [] fs all = tt
front_all P (e ∷ es) fs all = (all.0, front_all P es fs all.1)

front_rises : (es fs : List (ℕ × ℕ)) → EntriesRise (es ++ fs) → EntriesRise es
front_rises [] fs rise = tt
front_rises (e ∷ es) fs rise = (front_all (λ f. e.0 < f.0) es fs rise.0, front_rises es fs rise.1)

part_rises : (lo : ℕ) (es : List (ℕ × ℕ)) → EntriesRise es → EntriesRise (part_from lo es)
part_rises lo [] rise = tt
part_rises lo (e ∷ es) rise = rw (step_in lo e es) (rise_if (nat_le lo e.0) e (part_from lo es) (each_part (λ f. e.0 < f.0) lo es rise.0) (part_rises lo es rise.1))

same_if : (b : Bool) (n : ℕ) (e : ℕ × ℕ) (es fs : List (ℕ × ℕ)) (o : Option (ℕ × ℕ)) → (b ≡ false → nat_le n e.0 ≡ false) → first_from n (es ++ fs) ≡ o
    → first_from n (cond b (e ∷ es) es ++ fs) ≡ (if nat_le n e.0 then Some e else o)
same_if true n e es fs o out is = ap (λ p. if nat_le n e.0 then Some e else p) is
same_if false n e es fs o out is = is ∙ ap (λ b. if b then Some e else o) (sym (out refl))

below_too : (lo n q : ℕ) → lo ≤ n → nat_le lo q ≡ false → nat_le n q ≡ false
below_too lo n q more out = let less = leb-false lo q out in lt-leb n q (omega (arith, less, more))

part_same : (lo n : ℕ) (es fs : List (ℕ × ℕ)) → lo ≤ n → first_from n (part_from lo es ++ fs) ≡ first_from n (es ++ fs)
part_same lo n [] fs more = refl
part_same lo n (e ∷ es) fs more =
    ap (λ l. first_from n (l ++ fs)) (step_in lo e es)
    ∙ same_if (nat_le lo e.0) n e (part_from lo es) fs (first_from n (es ++ fs)) (λ out. below_too lo n e.0 more out) (part_same lo n es fs more)

-- ---- a walk along them

-- of all entries those are left that stand in the map, with those of the queue; the span that is next begins above the others
pub record IsWalked (all rest recent ranges : List (ℕ × ℕ)) (passed : ℕ) : Type 0 where
  pub from : ℕ
  pub low : (range : ℕ × ℕ) → passed < length ranges → range ≡ get_or ranges passed range → from ≤ range.0
  pub same : (n : ℕ) → from ≤ n → first_from n (rest ++ recent) ≡ first_from n all
  pub above : AllByRecursion (λ e. from ≤ e.0) rest
  pub rise : EntriesRise rest

first_low : (lo : ℕ) (ranges : List (ℕ × ℕ)) (first range : ℕ × ℕ) → 0 < length ranges → lo ≡ first.0 → first ≡ get_or ranges 0 first → range ≡ get_or ranges 0 range → lo ≤ range.0
first_low lo [] first range some lo_is is at = absurd (omega arith)
first_low lo (r ∷ rs) first range some lo_is is at = let a = ap (λ (x : ℕ × ℕ). x.0) is in let b = ap (λ (x : ℕ × ℕ). x.0) at in omega (arith, a, b, lo_is)

pub walk_begins : (gaps recent ranges : List (ℕ × ℕ)) (lo : ℕ) (first : ℕ × ℕ) → EntriesRise (gaps ++ recent) → first ≡ get_or ranges 0 first → lo ≡ first.0 → IsWalked (gaps ++ recent) (part_from lo gaps) recent ranges 0
walk_begins gaps recent ranges lo first rise is lo_is = record {
  from = lo;
  low = λ range some at. first_low lo ranges first range some lo_is is at;
  same = λ n more. part_same lo n gaps recent more;
  above = part_above lo gaps;
  rise = part_rises lo gaps (front_rises gaps recent rise);
}

pub walk_goes_on : (all rest recent ranges : List (ℕ × ℕ)) (passed next : ℕ) (gap : ℕ × ℕ) → IsWalked all (gap ∷ rest) recent ranges passed
    → ((range : ℕ × ℕ) → range ≡ get_or ranges next range → gap.0 < range.0) → IsWalked all rest recent ranges next
walk_goes_on all rest recent ranges passed next gap walk above = record {
  from = gap.0 + 1;
  low = λ range some at. (let more = above range at in omega (arith, more));
  same = λ n more. (
      let beyond : walk.from ≤ n = (let low = walk.above.0 in omega (arith, low, more)) in
      ap (λ b. if b then Some gap else first_from n (rest ++ recent)) (sym (lt-leb n gap.0 (omega (arith, more)))) ∙ walk.same n beyond);
  above = each_weaker (λ e. gap.0 < e.0) (λ e. gap.0 + 1 ≤ e.0) (λ e more. omega (arith, more)) rest walk.rise.0;
  rise = walk.rise.1;
}

-- ---- the spans that end below the next of them

names_none : (all rest : List (ℕ × ℕ)) (gap range : ℕ × ℕ) → EntriesRise all → first_from range.0 (gap ∷ rest) ≡ first_from range.0 all → EndsBelow gap.0 range → NamesNone all range
names_none all rest gap range rise same ends =
    let less : range.0 ≤ gap.0 = (let order = ends.0 in let below = ends.1 in omega (arith, order, below)) in
    let first : first_from range.0 all ≡ Some gap = sym same ∙ ap (λ b. if b then Some gap else first_from range.0 rest) (le-leb range.0 gap.0 less) in
    (ends.0, none_in range.0 range.1 gap.0 all (clear_first range.0 all gap rise first) ends.1)

from_here : (Q : ℕ × ℕ → Type 0) (g low m : ℕ) (ranges : List (ℕ × ℕ)) → AreApartFrom low ranges → AllByRecursion (EndsBelow g) (take m ranges)
    → ((range : ℕ × ℕ) → low ≤ range.0 → EndsBelow g range → Q range) → AllByRecursion Q (take m ranges)
from_here Q g low zero ranges apart ends goes = tt
from_here Q g low (suc m) [] apart ends goes = tt
from_here Q g low (suc m) (r ∷ ranges) apart ends goes = (
  goes r apart.0 ends.0,
  from_here Q g (r.1 + 1) m ranges apart.1 ends.1 (λ range more e. goes range (let first = apart.0 in let order = ends.0.0 in omega (arith, first, order, more)) e),
)

each_passed : (Q : ℕ × ℕ → Type 0) (g from k m : ℕ) (ranges : List (ℕ × ℕ)) → AreApart ranges → AllByRecursion Q (take k ranges) → AllByRecursion (EndsBelow g) (take m ranges)
    → ((range : ℕ × ℕ) → k < length ranges → range ≡ get_or ranges k range → from ≤ range.0)
    → ((range : ℕ × ℕ) → from ≤ range.0 → EndsBelow g range → Q range) → AllByRecursion Q (take m ranges)
each_passed Q g from k zero ranges apart all ends low goes = tt
each_passed Q g from k (suc m) [] apart all ends low goes = tt
each_passed Q g from zero (suc m) (r ∷ ranges) apart all ends low goes =
    let first = low r (omega arith) refl in (
      goes r first ends.0,
      from_here Q g (r.1 + 1) m ranges (rests_apart r.1 ranges apart.0 apart.1) ends.1 (λ range more e. goes range (let order = ends.0.0 in omega (arith, first, order, more)) e),
    )
each_passed Q g from (suc k) (suc m) (r ∷ ranges) apart all ends low goes =
    (all.0, each_passed Q g from k m ranges apart.1 all.1 ends.1 (λ range some at. low range (omega (arith, some)) at) goes)

pub passed_none : (all rest recent ranges : List (ℕ × ℕ)) (passed next : ℕ) (gap : ℕ × ℕ) → EntriesRise all → AreApart ranges → IsWalked all (gap ∷ rest) recent ranges passed
    → AllByRecursion (NamesNone all) (take passed ranges) → AllByRecursion (EndsBelow gap.0) (take next ranges) → AllByRecursion (NamesNone all) (take next ranges)
passed_none all rest recent ranges passed next gap rise apart walk before ends =
    each_passed (NamesNone all) gap.0 walk.from passed next ranges apart before ends walk.low
    (λ range low e. names_none all (rest ++ recent) gap range rise (walk.same range.0 low) e)

-- and below those behind it
pub ends_on : (rest ranges : List (ℕ × ℕ)) (gap : ℕ × ℕ) → AllByRecursion (λ e. gap.0 < e.0) rest → AllByRecursion (EndsBelow gap.0) ranges → AllByRecursion (λ e. AllByRecursion (EndsBelow e.0) ranges) rest
ends_on rest ranges gap above ends =
    each_weaker (λ e. gap.0 < e.0) (λ e. AllByRecursion (EndsBelow e.0) ranges) (λ e more. each_weaker (EndsBelow gap.0) (EndsBelow e.0) (λ r below. (below.0, (let less = below.1 in omega (arith, less, more)))) ranges ends) rest above

pub none_end : (rest : List (ℕ × ℕ)) → AllByRecursion (λ e. AllByRecursion (EndsBelow e.0) []) rest
none_end [] = tt
none_end (e ∷ rest) = (tt, none_end rest)

-- ---- what they leave as it is

both_none : (s : Space) (d : ℕ) (p : SentPacket) (ps : List SentPacket) (range : ℕ × ℕ) (waits within : Bool) → is_waiting s p ≡ waits → is_between range.0 range.1 p.number ≡ within
    → first_between range.0 range.1 (unacknowledged_in s d (p ∷ ps)) ≡ None
    → (waits ≡ true → within ≡ false) × (first_between range.0 range.1 (unacknowledged_in s (suc d) ps) ≡ None)
both_none s d p ps range true true waits within none = (let got : ◌≡◌ {A = Option (ℕ × ℕ)} (Some (p.number, d)) None = rw (waits, within) at none in cc)
both_none s d p ps range true false waits within none = (λ y. refl, rw (waits, within) at none)
both_none s d p ps range false within waits is none = (λ y. cc, rw waits at none)

not_either : (a b : Bool) → a ≡ false → b ≡ false → (a || b) ≡ false
not_either true b first second = cc
not_either false b first second = second

each_none : (s : Space) (d : ℕ) (p : SentPacket) (ps : List SentPacket) (ranges : List (ℕ × ℕ)) → AllByRecursion (NamesNone (unacknowledged_in s d (p ∷ ps))) ranges
    → (is_waiting s p ≡ true → is_named ranges p.number ≡ false) × AllByRecursion (NamesNone (unacknowledged_in s (suc d) ps)) ranges
each_none s d p ps [] none = (λ y. refl, tt)
each_none s d p ps (r ∷ ranges) none =
    let here = both_none s d p ps r (is_waiting s p) (is_between r.0 r.1 p.number) refl refl none.0.1 in
    let rest = each_none s d p ps ranges none.1 in
    (λ y. not_either (is_between r.0 r.1 p.number) (is_named ranges p.number) (here.0 y) (rest.0 y), ((none.0.0, here.1), rest.1))

pub covers_none : (s : Space) (d : ℕ) (ranges : List (ℕ × ℕ)) (ps : List SentPacket) → AllByRecursion (NamesNone (unacknowledged_in s d ps)) ranges → map (covered_by s ranges) ps ≡ ps
covers_none s d ranges [] none = refl
covers_none s d ranges (p ∷ ps) none =
    let both = each_none s d p ps ranges none in
    ap (λ q. q ∷ map (covered_by s ranges) ps) (stays_by (is_waiting s p) (is_named ranges p.number) p both.0) ∙ ap (λ qs. p ∷ qs) (covers_none s (suc d) ranges ps both.1)

is_not : (here unacknowledged open_here named : Bool) → (open_here ≡ true → unacknowledged ≡ true) → (here && unacknowledged ≡ true → named ≡ false) → (here && open_here && named) ≡ false
is_not true unacknowledged true named waits out = out (waits refl)
is_not true unacknowledged false named waits out = refl
is_not false unacknowledged open_here named waits out = refl

pub finds_none : (s : Space) (d : ℕ) (ranges : List (ℕ × ℕ)) (ps : List SentPacket) → AllByRecursion (NamesNone (unacknowledged_in s d ps)) ranges → filter (is_new s ranges) ps ≡ []
finds_none s d ranges [] none = refl
finds_none s d ranges (p ∷ ps) none =
    let both = each_none s d p ps ranges none in
    let out : is_new s ranges p ≡ false = is_not (is_space s p.space) (is_unacknowledged p.fate) (is_open p.fate) (is_named ranges p.number) (open_unacknowledged p.fate) both.0 in
    ap (λ b. cond b (p ∷ filter (is_new s ranges) ps) (filter (is_new s ranges) ps)) out ∙ finds_none s (suc d) ranges ps both.1
