-- What stands behind the values of keys that were read.
use Rattle.std.proofs.Common.{◌≡◌, ℕ, ◌≤◌, ◌<◌, ◌^◌, ◌⊎◌, List, [], ◌∷◌, Bool, true, false, cond, Option, Some, None, Result, Ok, Err, ok_or, refl, ◌&&◌, inl, inr}
use Rattle.std.specs.Prelude.{nat_le, is_some, option_and_then}
use Rattle.std.specs.List.{list_all, AllByRecursion}
use Rattle.std.proofs.lemmas.Bool.{and_parts, leb-true}
use Rattle.serde_json.specs.Data.{Data, number, unsigned, negative, float, null, boolean, string, array, object}
use Rattle.serde_json.specs.Find.{get, as_null}
use Rattle.qa_format.specs.declared.fault.Fault.{Fault}
use Rattle.qa_format.specs.declared.fault.Fault.TheVariants.{Missing}
use Rattle.qa_base.specs.declared.key.Key.{Key}
use Rattle.qa_base.specs.values.Events.{has_ranges}
use Rattle.qa_format.specs.format.Keys.{◌>>=◌, both, Kind, ranged, integer, integer_from, pairs, is_range, ranges_in, ranges, present, required_value, required, read_or, optional, if_present}
use Rattle.qa_base.specs.values.Limits.{max_packet_number, in_range}
use Rattle.qa_base.specs.values.Names.{key_name}
use Rattle.qa_format.specs.format.Proper.{IsRange, IsWord}
use Rattle.qa_format.proofs.format.Sized.{IsSized, get-IsSized}

-- ---- what stands behind an Ok

pub bind_ok : {A B : Type 0} → (r : Result A Fault) (f : A → Result B Fault) (y : B) → (r >>= f) ≡ Ok y → (x : A) × (r ≡ Ok x) × (f x ≡ Ok y)
bind_ok (Ok x) f y h = (x, refl, h)
bind_ok (Err e) f y h = cc

pub both_ok : {A B : Type 0} → (r : Result A Fault) (s : Result B Fault) (p : A × B) → both r s ≡ Ok p → (r ≡ Ok p.0) × (s ≡ Ok p.1)
both_ok (Ok x) (Ok y) p h = (cc, cc)
both_ok (Ok x) (Err f) p h = cc
both_ok (Err e) (Ok y) p h = cc
both_ok (Err e) (Err f) p h = cc

pub ok_is : {A : Type 0} → (x y : A) → (let r : Result A Fault = Ok x in r ≡ Ok y) → x ≡ y
ok_is x y h = cc

-- ---- a key

value_at : (b : Bool) (v w : Data) → cond b None (Some v) ≡ Some w → v ≡ w
value_at true v w h = cc
value_at false v w h = cc

present_at : (o : Option Data) (w : Data) → option_and_then (λ v. cond (is_some (as_null v)) None (Some v)) o ≡ Some w → o ≡ Some w
present_at None w h = cc
present_at (Some v) w h = rw (value_at (is_some (as_null v)) v w h) refl

-- what is present stands at the key's name
present_is : (k : Key) (d v : Data) → present k d ≡ Some v → get (key_name k) d ≡ Some v
present_is k d v h = present_at (get (key_name k) d) v h

there : (o : Option Data) (k : Key) (v : Data) → ok_or o (Missing k) ≡ Ok v → o ≡ Some v
there None k v h = cc
there (Some w) k v h = cc

-- a value of this kind stands at the key
abbrev pub StandsAt : {A : Type 0} → Kind A → Key → Data → A → Type 0
StandsAt kind k d x = (v : Data) × (get (key_name k) d ≡ Some v) × (kind k v ≡ Ok x)

pub required_stands : {A : Type 0} → (kind : Kind A) (k : Key) (d : Data) (x : A) → required kind k d ≡ Ok x → StandsAt kind k d x
required_stands kind k d x h =
    let read = bind_ok (required_value k d) (kind k) x h in
    (read.0, present_is k d read.0 (there (present k d) k read.0 read.1), read.2)

said : {A : Type 0} → (kind : Kind A) (absent : A) (k : Key) (d : Data) (o : Option Data) (x : A) → present k d ≡ o → read_or kind absent k o ≡ Ok x → (x ≡ absent) ⊎ StandsAt kind k d x
said kind absent k d None x is h = inl cc
said kind absent k d (Some v) x is h = inr (v, present_is k d v is, h)

pub optional_stands : {A : Type 0} → (kind : Kind A) (absent : A) (k : Key) (d : Data) (x : A) → optional kind absent k d ≡ Ok x → (x ≡ absent) ⊎ StandsAt kind k d x
optional_stands kind absent k d x h = said kind absent k d (present k d) x refl h

-- ---- integers

unsigned_is : (v : Data) (k : Key) (n : ℕ) → integer k v ≡ Ok n → v ≡ number (unsigned n)
unsigned_is null k n h = cc
unsigned_is (boolean b) k n h = cc
unsigned_is (number (unsigned m)) k n h = cc
unsigned_is (number (negative z)) k n h = cc
unsigned_is (number (float x)) k n h = cc
unsigned_is (string s) k n h = cc
unsigned_is (array ds) k n h = cc
unsigned_is (object ms) k n h = cc

-- an integer has 64 bits where all numbers of the object have
pub integer_is_word : (k : Key) (d : Data) (n : ℕ) → IsSized d → StandsAt integer k d n → n < 2 ^ 64
integer_is_word k d n sized stands = rw (unsigned_is stands.0 k n stands.2) at (get-IsSized (key_name k) d stands.0 sized stands.1)

within : (k : Key) (b : Bool) (n m : ℕ) → ranged k (cond b (Some n) None) ≡ Ok m → (b ≡ true) × (n ≡ m)
within k true n m h = (refl, cc)
within k false n m h = cc

-- a number that was asked to be in a range is in it
pub number_within : (lo hi : ℕ) (k : Key) (v : Data) (n : ℕ) → integer_from lo hi k v ≡ Ok n → (nat_le lo n && nat_le n hi) ≡ true
number_within lo hi k v n h =
    let read = bind_ok (integer k v) (λ m. ranged k (in_range lo hi m)) n h in
    let inside = within k (nat_le lo read.0 && nat_le read.0 hi) read.0 n read.2 in
    rw inside.1 at inside.0

pub required_within : (lo hi : ℕ) (k : Key) (d : Data) (n : ℕ) → required (integer_from lo hi) k d ≡ Ok n → (nat_le lo n && nat_le n hi) ≡ true
required_within lo hi k d n h = let stands = required_stands (integer_from lo hi) k d n h in number_within lo hi k stands.0 n stands.2

pub required_high : (lo hi : ℕ) (k : Key) (d : Data) (n : ℕ) → required (integer_from lo hi) k d ≡ Ok n → n ≤ hi
required_high lo hi k d n h = leb-true n hi (and_parts (nat_le lo n) (nat_le n hi) (required_within lo hi k d n h)).1

-- an integer that may be absent has 64 bits, and so has what it stands for
pub optional_is_word : (absent : ℕ) (k : Key) (d : Data) (n : ℕ) → IsSized d → absent < 2 ^ 64 → optional integer absent k d ≡ Ok n → n < 2 ^ 64
optional_is_word absent k d n sized small h = elim (optional_stands integer absent k d n h) [
  | inl same ↦ rw same small
  | inr stands ↦ integer_is_word k d n sized stands
]

-- an integer that is there
abbrev maybe_integer : Kind (Option ℕ)
maybe_integer k v = integer k v >>= λ n. Ok (Some n)

some_is_word : (n : ℕ) → n < 2 ^ 64 → IsWord (Some n)
some_is_word n small m is = let same : n ≡ m = cc in rw (← same) small

none_is_word : IsWord None
none_is_word m is = cc

word_of : (k : Key) (d v : Data) (o : Option ℕ) → IsSized d → get (key_name k) d ≡ Some v → maybe_integer k v ≡ Ok o → IsWord o
word_of k d v o sized at h =
    let read = bind_ok (integer k v) (λ n. Ok (Some n)) o h in
    rw (← ok_is (Some read.0) o read.2) (some_is_word read.0 (integer_is_word k d read.0 sized (v, at, read.1)))

pub present_is_word : (k : Key) (d : Data) (o : Option ℕ) → IsSized d → if_present integer k d ≡ Ok o → IsWord o
present_is_word k d o sized h = elim (optional_stands maybe_integer None k d o h) [
  | inl same ↦ rw same none_is_word
  | inr stands ↦ word_of k d stands.0 o sized stands.1 stands.2
]

-- ---- lists of ranges

each_range : (rs : List (ℕ × ℕ)) → list_all is_range rs ≡ true → AllByRecursion IsRange rs
each_range [] all = tt
each_range (r ∷ rs) all =
    let parts = and_parts (is_range r) (list_all is_range rs) all in
    let bounds = and_parts (nat_le r.0 r.1) (nat_le r.1 max_packet_number) parts.0 in
    ((leb-true r.0 r.1 bounds.0, leb-true r.1 max_packet_number bounds.1), each_range rs parts.1)

are_all : (k : Key) (b : Bool) (xs ys : List (ℕ × ℕ)) → ranged k (cond b (Some xs) None) ≡ Ok ys → (b ≡ true) × (xs ≡ ys)
are_all k true xs ys h = (refl, cc)
are_all k false xs ys h = cc

-- ranges that were read: there is one, and each is a range
pub ranges_are : (k : Key) (d : Data) (rs : List (ℕ × ℕ)) → required ranges k d ≡ Ok rs → (has_ranges rs ≡ true) × AllByRecursion IsRange rs
ranges_are k d rs h =
    let stands = required_stands ranges k d rs h in
    let read = bind_ok (pairs k stands.0) (λ ps. ranged k (ranges_in ps)) rs stands.2 in
    let tested = are_all k (has_ranges read.0 && list_all is_range read.0) read.0 rs read.2 in
    let parts = and_parts (has_ranges read.0) (list_all is_range read.0) tested.0 in
    rw (← tested.1) (parts.0, each_range read.0 parts.1)
