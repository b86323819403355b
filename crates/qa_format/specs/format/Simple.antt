-- Values whose text without white space is read as the value, and the members of an object in any
-- order.
use Rattle.std.specs.Prelude.{◌≡◌, ℕ, ◌^◌, ◌<◌, ◌≤◌, nat_lt, ◌&&◌, List, [], ◌∷◌, Bool, true, ⊤}
use Rattle.std.specs.Cmp.Lexicographic.{slice_cmp}
use Rattle.std.specs.Ordering.{nat_cmp}
use Rattle.std.specs.declared.cmp.Ordering.TheVariants.{Less}
use Rattle.serde_json.specs.Data.{Num, unsigned, negative, float, Data, null, boolean, number}
use Rattle.serde_json.specs.Data.{string, array, object, Items, no_items, item, Members, no_members}
use Rattle.serde_json.specs.Data.{member, put, depth}

-- ---- simple values

-- each byte is ASCII
abbrev pub is_ascii : List ℕ → Bool
is_ascii [] = true
is_ascii (x ∷ xs) = nat_lt x 128 && is_ascii xs

-- the number is an unsigned integer of 64 bits
abbrev pub IsUnsigned : Num → Type 0
IsUnsigned (unsigned n) = n < 2 ^ 64
IsUnsigned (negative z) = ⊥
IsUnsigned (float x) = ⊥

-- the key comes before each key of the members
abbrev pub IsBefore : List ℕ → Members → Type 0
IsBefore k no_members = ⊤
IsBefore k (member l d ms) = (slice_cmp nat_cmp k l ≡ Less) × IsBefore k ms

-- a value of null, integers of 64 bits, booleans, ASCII strings, lists, and objects whose keys rise
abbrev mutual
  pub IsSimple : Data → Type 0
  IsSimple null = ⊤
  IsSimple (boolean b) = ⊤
  IsSimple (number n) = IsUnsigned n
  IsSimple (string s) = is_ascii s ≡ true
  IsSimple (array ds) = AreSimple ds
  IsSimple (object ms) = HaveSimple ms

  -- each item is simple
  pub AreSimple : Items → Type 0
  AreSimple no_items = ⊤
  AreSimple (item d ds) = IsSimple d × AreSimple ds

  -- each member has an ASCII key before those behind it, and a simple value
  pub HaveSimple : Members → Type 0
  HaveSimple no_members = ⊤
  HaveSimple (member k d ms) = (is_ascii k ≡ true) × IsBefore k ms × IsSimple d × HaveSimple ms

-- ---- members in any order

-- a value that can be written and read
pub record IsKept (d : Data) : Type 0 where
  pub simple : IsSimple d
  pub shallow : depth d ≤ 2

-- each key is ASCII, and each value can be written and read
abbrev pub AreKept : Members → Type 0
AreKept no_members = ⊤
AreKept (member k d ms) = (is_ascii k ≡ true) × IsKept d × AreKept ms

-- the first members, with the second put among them one after another: of two values of a key the
-- later one stays
abbrev pub put_all : Members → Members → Members
put_all found no_members = found
put_all found (member k d ms) = put_all (put k d found) ms
