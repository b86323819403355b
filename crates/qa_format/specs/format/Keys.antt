-- How the keys of a line are read: the kinds of values, keys that may be absent, and which fault
-- counts of several.
use Rattle.std.specs.Prelude.{ℕ, ◌&&◌, nat_le, nat_lt, List, [], ◌∷◌, Bool, Option, Some, None}
use Rattle.std.specs.Prelude.{is_some, ok_or, option_and_then, option_map, Result, Ok, Err}
use Rattle.std.specs.Prelude.{if◌then◌else◌}
use Rattle.std.specs.List.{list_all}
use Rattle.serde_json.specs.Data.{Data, Items, item, no_items}
use Rattle.serde_json.specs.Find.{get, as_null, as_bool, as_number, as_str, as_array, as_u64}
use Rattle.qa_format.specs.declared.fault.Fault.{Fault}
use Rattle.qa_format.specs.declared.fault.Fault.TheVariants.{Missing, WrongKind, OutOfRange}
use Rattle.qa_base.specs.declared.key.Key.{Key}
use Rattle.qa_base.specs.values.Events.{has_ranges}
use Rattle.qa_base.specs.values.Limits.{max_packet_number, in_range}
use Rattle.qa_base.specs.values.Names.{key_name}

-- ---- several keys

infixl 10 ◌>>=◌
abbrev pub ◌>>=◌ : {A B : Type 0} → Result A Fault → (A → Result B Fault) → Result B Fault
(Ok x) >>= f = f x
(Err e) >>= f = Err e

-- how early a fault counts: first what is absent, then what is of another kind, then what is out of
-- range
abbrev pub stage : Fault → ℕ
stage (Missing k) = 0
stage (WrongKind k) = 1
stage _ = 2

-- the fault that counts of two, where the first key stands before the second in the table
abbrev pub earlier : Fault → Fault → Fault
earlier e f = if nat_lt (stage f) (stage e) then f else e

-- the values of both, or the fault that counts
abbrev pub both : {A B : Type 0} → Result A Fault → Result B Fault → Result (A × B) Fault
both (Ok x) (Ok y) = Ok (x, y)
both (Ok x) (Err f) = Err f
both (Err e) (Ok y) = Err e
both (Err e) (Err f) = Err (earlier e f)

-- ---- kinds of values

-- what a value says where a key asks for this kind, or its fault
abbrev pub Kind : Type 0 → Type 0
Kind A = Key → Data → Result A Fault

-- a value that was found among those that the key may have
abbrev pub ranged : {A : Type 0} → Key → Option A → Result A Fault
ranged k found = ok_or found (OutOfRange k)

abbrev pub integer_of : Data → Option ℕ
integer_of v = option_and_then as_u64 (as_number v)

-- an integer of 64 bits
abbrev pub integer : Kind ℕ
integer k v = ok_or (integer_of v) (WrongKind k)

-- an integer from lo to hi
abbrev pub integer_from : ℕ → ℕ → Kind ℕ
integer_from lo hi k v = integer k v >>= λ n. ranged k (in_range lo hi n)

abbrev pub string : Kind (List ℕ)
string k v = ok_or (as_str v) (WrongKind k)

-- a string that names something
abbrev pub string_among : {A : Type 0} → (List ℕ → Option A) → Kind A
string_among names k v = string k v >>= λ t. ranged k (names t)

-- a string, and what it names, if anything
abbrev pub string_naming : {A : Type 0} → (List ℕ → Option A) → Kind (Option A)
string_naming names k v = string k v >>= λ t. Ok (names t)

abbrev pub boolean : Kind Bool
boolean k v = ok_or (as_bool v) (WrongKind k)

-- ---- lists of ranges

-- two integers, where the items are two
abbrev pub two_of : Items → Option (ℕ × ℕ)
two_of (item lo (item hi no_items)) =
    option_and_then (λ l. option_map (λ h. (l, h)) (integer_of hi)) (integer_of lo)
two_of _ = None

abbrev pub pair_of : Data → Option (ℕ × ℕ)
pair_of v = option_and_then two_of (as_array v)

-- the pairs that the items are, where each is one
abbrev pub pairs_of : Items → Option (List (ℕ × ℕ))
pairs_of no_items = Some []
pairs_of (item v vs) = option_and_then (λ p. option_map (λ ps. p ∷ ps) (pairs_of vs)) (pair_of v)

-- a list of pairs of integers
abbrev pub pairs : Kind (List (ℕ × ℕ))
pairs k v = ok_or (option_and_then pairs_of (as_array v)) (WrongKind k)

-- the least number of a range is not above its greatest, and this is the number of a packet
abbrev pub is_range : ℕ × ℕ → Bool
is_range range = nat_le range.0 range.1 && nat_le range.1 max_packet_number

-- the pairs, where there is one and each is a range
abbrev pub ranges_in : List (ℕ × ℕ) → Option (List (ℕ × ℕ))
ranges_in ps = if has_ranges ps && list_all is_range ps then Some ps else None

-- a list of ranges of packet numbers, in the order in which they stand
abbrev pub ranges : Kind (List (ℕ × ℕ))
ranges k v = pairs k v >>= λ ps. ranged k (ranges_in ps)

-- ---- one key

-- the value of a key, where it is there and not null
abbrev pub present : Key → Data → Option Data
present k d =
    option_and_then (λ v. if is_some (as_null v) then None else Some v) (get (key_name k) d)

-- the value of a key that has to be there
abbrev pub required_value : Key → Data → Result Data Fault
required_value k d = ok_or (present k d) (Missing k)

-- a key that has to be there, of this kind
abbrev pub required : {A : Type 0} → Kind A → Key → Data → Result A Fault
required kind k d = required_value k d >>= kind k

abbrev pub read_or : {A : Type 0} → Kind A → A → Key → Option Data → Result A Fault
read_or kind absent k None = Ok absent
read_or kind absent k (Some v) = kind k v

-- a key of this kind, or what it stands for where it is absent
abbrev pub optional : {A : Type 0} → Kind A → A → Key → Data → Result A Fault
optional kind absent k d = read_or kind absent k (present k d)

-- a key of this kind, where it is there
abbrev pub if_present : {A : Type 0} → Kind A → Key → Data → Result (Option A) Fault
if_present kind k d = optional (λ key v. kind key v >>= λ x. Ok (Some x)) None k d
