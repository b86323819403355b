-- Ranges behind ranges.
use Rattle.std.proofs.Common.{◌≡◌, ◌∙◌, ℕ, ◌+◌, ◌<◌, ◌≤◌, Bool, true, false, List, [], ◌∷◌, ◌++◌, length, Option, Some, None, refl, sym, ap, subst, arith}
use Rattle.std.proofs.lemmas.Bool.{and_parts, le-leb, leb-true}
use Rattle.std.specs.List.{AllByRecursion}
use Rattle.std.specs.Prelude.{nat_le, ◌&&◌, if◌then◌else◌}
use Rattle.qa_base.specs.values.Limits.{max_packet_number, max_time}
use Rattle.qa_base.specs.declared.event.Event.TheVariants as events
use Rattle.qa_format.proofs.format.Lengths.{ack_has_line, lost_has_line, written_is_longer}
use Rattle.qa_format.specs.declared.line.Line.{Line}
use Rattle.qa_format.specs.declared.line.Line.TheVariants as lines
use Rattle.qa_format.specs.format.Proper.{IsRange}
use Rattle.qa_format.specs.format.Written.{few_ranges, shortest, written}
use Rattle.qaudit_c.specs.declared.structs.PacketRange.{PacketRange}
use Rattle.qaudit_c.specs.Events.{SaysProperRanges, cons_of, is_said, left_out_of, range_count, range_said, ranges_of, time_of}

-- both, one behind the other, where both are there
abbrev pub join_of : Option (List (ℕ × ℕ)) → Option (List (ℕ × ℕ)) → Option (List (ℕ × ℕ))
join_of None more = None
join_of (Some ranges) None = None
join_of (Some ranges) (Some more) = Some (ranges ++ more)

join_nothing : (more : Option (List (ℕ × ℕ))) → more ≡ join_of (Some []) more
join_nothing None = refl
join_nothing (Some more) = refl

cons_join : (range : Option (ℕ × ℕ)) (ranges more : Option (List (ℕ × ℕ))) → cons_of range (join_of ranges more) ≡ join_of (cons_of range ranges) more
cons_join None ranges more = refl
cons_join (Some range) None more = refl
cons_join (Some range) (Some ranges) None = refl
cons_join (Some range) (Some ranges) (Some more) = refl

pub ranges_append : (rs qs : List PacketRange) → ranges_of (rs ++ qs) ≡ join_of (ranges_of rs) (ranges_of qs)
ranges_append [] qs = join_nothing (ranges_of qs)
ranges_append (r ∷ rs) qs = ap (cons_of (range_said r)) (ranges_append rs qs) ∙ cons_join (range_said r) (ranges_of rs) (ranges_of qs)

-- one more range
pub one_range_more : (rs : List PacketRange) (r : PacketRange) (ranges : List (ℕ × ℕ)) (range : ℕ × ℕ) → ranges_of rs ≡ Some ranges → range_said r ≡ Some range
    → ranges_of (rs ++ r ∷ []) ≡ Some (ranges ++ range ∷ [])
one_range_more rs r ranges range before this = ranges_append rs (r ∷ []) ∙ rw (before, this) refl

-- one that is none
pub no_range : (rs : List PacketRange) (r : PacketRange) (qs : List PacketRange) (ranges : List (ℕ × ℕ)) → ranges_of rs ≡ Some ranges → range_said r ≡ None
    → ranges_of (rs ++ r ∷ qs) ≡ None
no_range rs r qs ranges before this = ranges_append rs (r ∷ qs) ∙ rw (before, this) refl

-- ---- what ranges are

abbrev IsOne : Option (ℕ × ℕ) → Type 0
IsOne None = Unit {0}
IsOne (Some range) = IsRange range

abbrev AreAll : Option (List (ℕ × ℕ)) → Type 0
AreAll None = Unit {0}
AreAll (Some ranges) = AllByRecursion IsRange ranges

one_by : (r : PacketRange) (b : Bool) → (nat_le r.least r.greatest && nat_le r.greatest max_packet_number) ≡ b → IsOne (if b then Some (r.least, r.greatest) else None)
one_by r true is =
    let parts = and_parts (nat_le r.least r.greatest) (nat_le r.greatest max_packet_number) is in
    (leb-true r.least r.greatest parts.0, leb-true r.greatest max_packet_number parts.1)
one_by r false is = tt

one_is : (r : PacketRange) → IsOne (range_said r)
one_is r = one_by r (nat_le r.least r.greatest && nat_le r.greatest max_packet_number) refl

cons_are : (range : Option (ℕ × ℕ)) (ranges : Option (List (ℕ × ℕ))) → IsOne range → AreAll ranges → AreAll (cons_of range ranges)
cons_are None ranges is are = tt
cons_are (Some range) None is are = tt
cons_are (Some range) (Some ranges) is are = (is, are)

all_are : (rs : List PacketRange) → AreAll (ranges_of rs)
all_are [] = tt
all_are (r ∷ rs) = cons_are (range_said r) (ranges_of rs) (one_is r) (all_are rs)

-- the ranges that C says are ranges of packet numbers
pub are_ranges : (rs : List PacketRange) (ranges : List (ℕ × ℕ)) → ranges_of rs ≡ Some ranges → AllByRecursion IsRange ranges
are_ranges rs ranges is = subst (λ (o : Option (List (ℕ × ℕ))). AreAll o) is (all_are rs)

time_by : (t time : ℕ) (b : Bool) → (nat_le 0 t && nat_le t max_time) ≡ b → (if b then Some t else None) ≡ Some time → time ≤ max_time
time_by t time true is same =
    let most = leb-true t max_time (and_parts (nat_le 0 t) (nat_le t max_time) is).1 in
    let equal : t ≡ time = cc in
    omega arith
time_by t time false is same = absurd cc

-- and a time is one
pub is_time : (t time : ℕ) → time_of t ≡ Some time → time ≤ max_time
is_time t time is = time_by t time (nat_le 0 t && nat_le t max_time) refl is

-- ---- lines with few ranges

pub few_are_said : (x : Line) → SaysProperRanges x → range_count x ≤ few_ranges → true ≡ is_said x
few_are_said lines.Blank are few = refl
few_are_said (lines.Header s) are few = refl
few_are_said (lines.Event (events.Ack ack)) are few = sym (ack_has_line ack are.0 are.1 are.2 few)
few_are_said (lines.Event (events.Lost t s ranges)) are few = sym (lost_has_line s t ranges are.0 are.1 few)
few_are_said (lines.Event e) are few = refl

-- ---- lines with more

shift_not : (s m k : ℕ) (b : Bool) → nat_le s m ≡ false → nat_le (s + k) (m + k) ≡ b → b ≡ false
shift_not s m k true not is =
    let le = leb-true (s + k) (m + k) is in
    absurd (true_or_false (sym (le-leb s m (omega (arith, le))) ∙ not))
  where
    true_or_false : true ≡ false → ⊥
    true_or_false same = cc
shift_not s m k false not is = refl

shift_by : (s m k : ℕ) (b : Bool) → nat_le s m ≡ b → nat_le (s + k) (m + k) ≡ b
shift_by s m k true is = let le = leb-true s m is in le-leb (s + k) (m + k) (omega (arith, le))
shift_by s m k false is = shift_not s m k (nat_le (s + k) (m + k)) is refl

-- what is written fits with what the shortest line leaves out where this fits
fits_by : (written shortest left : ℕ) → written ≡ shortest + left → nat_le written (65536 + left) ≡ nat_le shortest 65536
fits_by written shortest left is = rw is (shift_by shortest 65536 left (nat_le shortest 65536) refl)

-- a line with more ranges has not few
pub not_few : (n : ℕ) (x : Line) → n ≡ range_count x → few_ranges < n → range_count x ≤ few_ranges → ⊥
not_few n x is many few = omega (arith, is, many, few)

pub said_by_length : (x : Line) (left : ℕ) → (range_count x ≤ few_ranges → ⊥) → left ≡ left_out_of x → nat_le (length (written x)) (65536 + left) ≡ is_said x
said_by_length lines.Blank left many is = absurd (many (omega arith))
said_by_length (lines.Header s) left many is = absurd (many (omega arith))
said_by_length (lines.Event (events.Ack ack)) left many is =
    fits_by (length (written (lines.Event (events.Ack ack)))) (length (shortest (events.Ack ack))) left (written_is_longer (events.Ack ack) ∙ ap (λ k. length (shortest (events.Ack ack)) + k) (sym is))
said_by_length (lines.Event (events.Lost t s ranges)) left many is =
    fits_by (length (written (lines.Event (events.Lost t s ranges)))) (length (shortest (events.Lost t s ranges))) left (written_is_longer (events.Lost t s ranges) ∙ ap (λ k. length (shortest (events.Lost t s ranges)) + k) (sym is))
said_by_length (lines.Event e) left many is = absurd (many (omega arith))
