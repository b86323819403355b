-- Keys that were written are read as what was written.
use Rattle.std.proofs.Common.{◌≡◌, ◌∙◌, ℕ, ◌≤◌, ◌<◌, ◌^◌, List, [], ◌∷◌, ◌++◌, Bool, true, cond, Option, Some, None, Result, Ok, refl, ap, ◌&&◌, Less, Greater, Equal, Ordering, arith}
use Rattle.std.specs.Prelude.{nat_le, ok_or, is_some, option_map, option_and_then}
use Rattle.std.specs.Cmp.Lexicographic.{slice_cmp}
use Rattle.std.specs.List.{list_all, AllByRecursion}
use Rattle.std.specs.Ordering.{nat_cmp, match_ordering}
use Rattle.std.proofs.lemmas.Bool.{and_from, le-leb}
use Rattle.std.proofs.lemmas.Cmp.{nat_list_cmp_total}
use Rattle.serde_json.specs.Data as json
use Rattle.serde_json.specs.Data.{Data, Members, no_members, member, depth, items_depth, members_depth}
use Rattle.serde_json.specs.Find.{get, get_member, as_null}
use Rattle.qa_format.specs.declared.fault.Fault.{Fault}
use Rattle.qa_base.specs.declared.key.Key.{Key}
use Rattle.qa_base.specs.declared.key.Key.TheVariants as key
use Rattle.qa_base.specs.declared.rule.Field.{Field}
use Rattle.qa_base.specs.declared.space.TimerKind.{TimerKind}
use Rattle.qa_base.specs.declared.space.TimerKind.TheVariants.{Loss, Pto}
use Rattle.qa_base.specs.declared.space.Permission.{Permission}
use Rattle.qa_base.specs.declared.space.Permission.TheVariants.{Window, Probe, Recovery}
use Rattle.qa_base.specs.declared.space.Role.{Role}
use Rattle.qa_base.specs.declared.space.Role.TheVariants.{Client, Server}
use Rattle.qa_base.specs.declared.space.Space.{Space}
use Rattle.qa_base.specs.declared.space.Space.TheVariants.{Initial, Handshake, App}
use Rattle.qa_base.specs.declared.space.LossByNumber.{LossByNumber}
use Rattle.qa_base.specs.declared.space.LossByNumber.TheVariants.{Must, May}
use Rattle.qa_base.specs.declared.space.ThresholdCounts.{ThresholdCounts}
use Rattle.qa_base.specs.declared.space.ThresholdCounts.TheVariants.{Numbers, Packets}
use Rattle.qa_base.specs.declared.space.Controller.{Controller}
use Rattle.qa_base.specs.declared.space.Controller.TheVariants.{NewReno, Reported}
use Rattle.qa_base.specs.declared.space.TimeUnit.{TimeUnit}
use Rattle.qa_base.specs.declared.space.TimeUnit.TheVariants.{Microseconds, Nanoseconds}
use Rattle.qa_base.specs.values.Events.{has_ranges}
use Rattle.qa_format.specs.format.Keys.{◌>>=◌, both, Kind, ranged, integer, integer_from, string_among, string_naming, pairs_of, is_range, ranges, present, required, read_or, optional, if_present}
use Rattle.qa_base.specs.values.Limits.{max_packet_number}
use Rattle.qa_base.specs.values.Names.{key_name, field_name, role_name, role_named, unit_name, controller_name, loss_by_number_name, unit_named, controller_named, loss_by_number_named, threshold_counts_name, threshold_counts_named, space_name, space_named, permission_name, permission_named, kind_name, kind_named}
use Rattle.qa_format.specs.format.Proper.{IsRange, IsWord}
pub use Rattle.qa_format.specs.format.Simple.{IsKept}
use Rattle.qa_format.specs.format.Simple.{is_ascii, AreSimple, HaveSimple, IsBefore}
use Rattle.qa_format.specs.format.Written as written
use Rattle.qa_format.specs.format.Written.{Pairs, reported, members, object_of}

-- ---- one key

present_reads : (k : Key) (d v : Data) → get (key_name k) d ≡ Some v → as_null v ≡ None → present k d ≡ Some v
present_reads k d v at some = ap (option_and_then (λ w. cond (is_some (as_null w)) None (Some w))) at ∙ ap (λ o. cond (is_some o) None (Some v)) some

-- a key whose value is read by its kind
pub required_reads : {A : Type 0} → (kind : Kind A) (k : Key) (d v : Data) (x : A) → get (key_name k) d ≡ Some v → as_null v ≡ None → kind k v ≡ Ok x → required kind k d ≡ Ok x
required_reads kind k d v x at some reads = rw (present_reads k d v at some) reads

pub optional_reads : {A : Type 0} → (kind : Kind A) (absent : A) (k : Key) (d v : Data) (x : A) → get (key_name k) d ≡ Some v → as_null v ≡ None → kind k v ≡ Ok x → optional kind absent k d ≡ Ok x
optional_reads kind absent k d v x at some reads = ap (read_or kind absent k) (present_reads k d v at some) ∙ reads

pub both_reads : {A B : Type 0} → (r : Result A Fault) (s : Result B Fault) (x : A) (y : B) → r ≡ Ok x → s ≡ Ok y → both r s ≡ Ok (x, y)
both_reads r s x y first second = rw (first, second) refl

-- ---- kinds of values

pub integer_from_reads : (lo hi : ℕ) (k : Key) (n : ℕ) → lo ≤ n → n ≤ hi → integer_from lo hi k (written.integer n) ≡ Ok n
integer_from_reads lo hi k n low high = ap (λ b. ranged k (cond b (Some n) None)) (and_from (nat_le lo n) (nat_le n hi) (le-leb lo n low) (le-leb n hi high))

pub role_reads : (k : Key) (r : Role) → string_among role_named k (written.string (role_name r)) ≡ Ok r
role_reads k Client = refl
role_reads k Server = refl

pub unit_reads : (k : Key) (u : TimeUnit) → string_among unit_named k (written.string (unit_name u)) ≡ Ok u
unit_reads k Microseconds = refl
unit_reads k Nanoseconds = refl

pub controller_reads : (k : Key) (w : Controller) → string_among controller_named k (written.string (controller_name w)) ≡ Ok w
controller_reads k NewReno = refl
controller_reads k Reported = refl

pub losses_read : (k : Key) (l : LossByNumber) → string_naming loss_by_number_named k (written.string (loss_by_number_name l)) ≡ Ok (Some l)
losses_read k Must = refl
losses_read k May = refl

pub counts_read : (k : Key) (t : ThresholdCounts) → string_naming threshold_counts_named k (written.string (threshold_counts_name t)) ≡ Ok (Some t)
counts_read k Numbers = refl
counts_read k Packets = refl

pub space_reads : (k : Key) (s : Space) → string_among space_named k (written.string (space_name s)) ≡ Ok s
space_reads k Initial = refl
space_reads k Handshake = refl
space_reads k App = refl

pub permission_reads : (k : Key) (l : Permission) → string_among permission_named k (written.string (permission_name l)) ≡ Ok l
permission_reads k Window = refl
permission_reads k Probe = refl
permission_reads k Recovery = refl

pub kind_reads : (k : Key) (t : TimerKind) → string_among kind_named k (written.string (kind_name t)) ≡ Ok t
kind_reads k Loss = refl
kind_reads k Pto = refl

pairs_read : (rs : List (ℕ × ℕ)) → pairs_of (written.integer_pairs rs) ≡ Some rs
pairs_read [] = refl
pairs_read (r ∷ rs) = ap (option_map (λ ps. r ∷ ps)) (pairs_read rs)

all_ranges : (rs : List (ℕ × ℕ)) → AllByRecursion IsRange rs → list_all is_range rs ≡ true
all_ranges [] each = refl
all_ranges (r ∷ rs) each =
    and_from (is_range r) (list_all is_range rs)
    (and_from (nat_le r.0 r.1) (nat_le r.1 max_packet_number) (le-leb r.0 r.1 each.0.0) (le-leb r.1 max_packet_number each.0.1))
    (all_ranges rs each.1)

pub ranges_read : (k : Key) (rs : List (ℕ × ℕ)) → has_ranges rs ≡ true → AllByRecursion IsRange rs → ranges k (json.array (written.integer_pairs rs)) ≡ Ok rs
ranges_read k rs some each =
    ap (λ o. ok_or o (Fault.WrongKind k) >>= λ ps. ranged k (cond (has_ranges ps && list_all is_range ps) (Some ps) None)) (pairs_read rs)
    ∙ ap (λ b. ranged k (cond b (Some rs) None)) (and_from (has_ranges rs) (list_all is_range rs) some (all_ranges rs each))

integer_at : (k : Key) (d : Data) (o : Option ℕ) (v : Option Data) → get (key_name k) d ≡ v → v ≡ option_map written.integer o → if_present integer k d ≡ Ok o
integer_at k d None v at is = rw (at, is) refl
integer_at k d (Some n) v at is = rw (at, is) refl

-- an integer that may be absent
pub present_integer_reads : (k : Key) (d : Data) (o : Option ℕ) → get (key_name k) d ≡ option_map written.integer o → if_present integer k d ≡ Ok o
present_integer_reads k d o at = integer_at k d o (get (key_name k) d) refl at

-- ---- values that are reported

other_key : (o : Ordering) (a b : Option Data) → (o ≡ Equal → ⊥) → match_ordering o a b a ≡ a
other_key Less a b other = refl
other_key Equal a b other = absurd (other refl)
other_key Greater a b other = refl

-- a value that is reported stands at no other key
pub past_reported : (k : List ℕ) (f : Field) (o : Option ℕ) (ps : Pairs) → (slice_cmp nat_cmp k (field_name f) ≡ Equal → ⊥)
    → get_member k (members (reported f o ++ ps)) ≡ get_member k (members ps)
past_reported k f None ps other = refl
past_reported k f (Some n) ps other = other_key (slice_cmp nat_cmp k (field_name f)) (get_member k (members ps)) (Some (written.integer n)) other

-- a value stands at its key where it is reported
pub reported_stands : (f : Field) (o : Option ℕ) (ps : Pairs) → slice_cmp nat_cmp (field_name f) (field_name f) ≡ Equal → get_member (field_name f) (members ps) ≡ None
    → get_member (field_name f) (members (reported f o ++ ps)) ≡ option_map written.integer o
reported_stands f None ps same none = none
reported_stands f (Some n) ps same none = rw same refl

-- the same where no key stands behind it
pub past_last : (k : List ℕ) (f : Field) (o : Option ℕ) → (slice_cmp nat_cmp k (field_name f) ≡ Equal → ⊥) → get_member k (members (reported f o)) ≡ None
past_last k f None other = refl
past_last k f (Some n) other = other_key (slice_cmp nat_cmp k (field_name f)) None (Some (written.integer n)) other

pub last_stands : (f : Field) (o : Option ℕ) → slice_cmp nat_cmp (field_name f) (field_name f) ≡ Equal → get_member (field_name f) (members (reported f o)) ≡ option_map written.integer o
last_stands f None same = refl
last_stands f (Some n) same = rw same refl

-- ---- values that can be written and read

pub integer_is_kept : (n : ℕ) → n < 2 ^ 64 → IsKept (written.integer n)
integer_is_kept n small = record { simple = small; shallow = omega arith }

pub string_is_kept : (t : List ℕ) → is_ascii t ≡ true → IsKept (written.string t)
string_is_kept t ascii = record { simple = ascii; shallow = omega arith }

pub boolean_is_kept : (b : Bool) → IsKept (written.boolean b)
boolean_is_kept b = record { simple = tt; shallow = omega arith }

pub role_is_kept : (r : Role) → IsKept (written.string (role_name r))
role_is_kept Client = string_is_kept _ refl
role_is_kept Server = string_is_kept _ refl

pub unit_is_kept : (u : TimeUnit) → IsKept (written.string (unit_name u))
unit_is_kept Microseconds = string_is_kept _ refl
unit_is_kept Nanoseconds = string_is_kept _ refl

pub controller_is_kept : (w : Controller) → IsKept (written.string (controller_name w))
controller_is_kept NewReno = string_is_kept _ refl
controller_is_kept Reported = string_is_kept _ refl

pub losses_are_kept : (l : LossByNumber) → IsKept (written.string (loss_by_number_name l))
losses_are_kept Must = string_is_kept _ refl
losses_are_kept May = string_is_kept _ refl

pub counts_are_kept : (t : ThresholdCounts) → IsKept (written.string (threshold_counts_name t))
counts_are_kept Numbers = string_is_kept _ refl
counts_are_kept Packets = string_is_kept _ refl

pub space_is_kept : (s : Space) → IsKept (written.string (space_name s))
space_is_kept Initial = string_is_kept _ refl
space_is_kept Handshake = string_is_kept _ refl
space_is_kept App = string_is_kept _ refl

pub permission_is_kept : (l : Permission) → IsKept (written.string (permission_name l))
permission_is_kept Window = string_is_kept _ refl
permission_is_kept Probe = string_is_kept _ refl
permission_is_kept Recovery = string_is_kept _ refl

pub kind_is_kept : (t : TimerKind) → IsKept (written.string (kind_name t))
kind_is_kept Loss = string_is_kept _ refl
kind_is_kept Pto = string_is_kept _ refl

pairs_are_simple : (rs : List (ℕ × ℕ)) → AllByRecursion IsRange rs → AreSimple (written.integer_pairs rs)
pairs_are_simple [] each = tt
pairs_are_simple (r ∷ rs) each = ((omega (arith, each.0.0, each.0.1), (omega (arith, each.0.1), tt)), pairs_are_simple rs each.1)

pairs_are_shallow : (rs : List (ℕ × ℕ)) → items_depth (written.integer_pairs rs) ≤ 1
pairs_are_shallow [] = omega arith
pairs_are_shallow (r ∷ rs) = omega (arith, pairs_are_shallow rs)

pub ranges_are_kept : (rs : List (ℕ × ℕ)) → AllByRecursion IsRange rs → IsKept (json.array (written.integer_pairs rs))
ranges_are_kept rs each = record { simple = pairs_are_simple rs each; shallow = omega (arith, pairs_are_shallow rs) }

-- ---- keys that rise

-- these keys with their values can be written and read, behind this key
pub record Follow (k : List ℕ) (ps : Pairs) : Type 0 where
  pub before : IsBefore k (members ps)
  pub simple : HaveSimple (members ps)
  pub shallow : members_depth (members ps) ≤ 2

before_more : (j k : List ℕ) (ms : Members) → slice_cmp nat_cmp j k ≡ Less → IsBefore k ms → IsBefore j ms
before_more j k no_members less before = tt
before_more j k (member l d ms) less before = (nat_list_cmp_total.trans j k l less before.0, before_more j k ms less before.1)

pub none_follow : (k : List ℕ) → Follow k []
none_follow k = record { before = tt; simple = tt; shallow = omega arith }

pub follow : (j : List ℕ) (k : Key) (d : Data) (ps : Pairs) → slice_cmp nat_cmp j (key_name k) ≡ Less → is_ascii (key_name k) ≡ true → IsKept d → Follow (key_name k) ps → Follow j ((k, d) ∷ ps)
follow j k d ps less ascii kept more = record {
  before = (less, before_more j (key_name k) (members ps) less more.before);
  simple = (ascii, more.before, kept.simple, more.simple);
  shallow = omega (arith, kept.shallow, more.shallow);
}

-- what follows a key follows one that stands before it
pub follow_later : (j k : List ℕ) (ps : Pairs) → slice_cmp nat_cmp j k ≡ Less → Follow k ps → Follow j ps
follow_later j k ps less more = record { before = before_more j k (members ps) less more.before; simple = more.simple; shallow = more.shallow }

pub follow_reported : (j : List ℕ) (f : Field) (o : Option ℕ) (ps : Pairs) → slice_cmp nat_cmp j (field_name f) ≡ Less → is_ascii (field_name f) ≡ true → IsWord o → Follow (field_name f) ps
    → Follow j (reported f o ++ ps)
follow_reported j f None ps less ascii small more = record { before = before_more j (field_name f) (members ps) less more.before; simple = more.simple; shallow = more.shallow }
follow_reported j f (Some n) ps less ascii small more = follow j (key.Metric f) (written.integer n) ps less ascii (integer_is_kept n (small n refl)) more

pub follow_last : (j : List ℕ) (f : Field) (o : Option ℕ) → slice_cmp nat_cmp j (field_name f) ≡ Less → is_ascii (field_name f) ≡ true → IsWord o → Follow j (reported f o)
follow_last j f None less ascii small = none_follow j
follow_last j f (Some n) less ascii small = follow j (key.Metric f) (written.integer n) [] less ascii (integer_is_kept n (small n refl)) (none_follow (field_name f))
