-- The integers of a value that was read have 64 bits.
use Rattle.std.proofs.Common.{◌≡◌, ℕ, ◌<◌, ◌^◌, List, Bool, true, false, ◌&&◌, Option, Some, None, option_map, option_and_then, Ordering, Less, Equal, Greater, refl, subst}
use Rattle.std.proofs.lemmas.Bool.{ltb-true}
use Rattle.std.specs.Ordering.{nat_cmp, match_ordering}
use Rattle.std.specs.Cmp.Lexicographic.{slice_cmp}
use Rattle.std.specs.Prelude.{IfSome, if◌then◌else◌, ⊤}
use Rattle.json.specs.Json as json
use Rattle.serde_json.specs.Data.{Num, unsigned, negative, float, Data, null, boolean, number, string, array, object, Items, no_items, item, Members, no_members, member, put}
use Rattle.serde_json.specs.Find.{get, get_member}
use Rattle.serde_json.specs.Read.{number_of, of_json, of_items, of_members, read}

-- an unsigned number has 64 bits
abbrev pub IsSizedNumber : Num → Type 0
IsSizedNumber (unsigned n) = n < 2 ^ 64
IsSizedNumber (negative z) = ⊤
IsSizedNumber (float x) = ⊤

-- each integer of the value has 64 bits
abbrev mutual
  pub IsSized : Data → Type 0
  IsSized null = ⊤
  IsSized (boolean b) = ⊤
  IsSized (number n) = IsSizedNumber n
  IsSized (string s) = ⊤
  IsSized (array ds) = AreSized ds
  IsSized (object ms) = HaveSized ms

  pub AreSized : Items → Type 0
  AreSized no_items = ⊤
  AreSized (item d ds) = IsSized d × AreSized ds

  pub HaveSized : Members → Type 0
  HaveSized no_members = ⊤
  HaveSized (member k d ms) = IsSized d × HaveSized ms

-- ---- what holds of the value in an option, if there is one

map_keeps : {A B : Type 0} (P : A → Type 0) (Q : B → Type 0) (f : A → B) → ((a : A) → P a → Q (f a)) → (o : Option A) → IfSome o P → IfSome (option_map f o) Q
map_keeps P Q f step None h = tt
map_keeps P Q f step (Some a) h = step a h

and_then_keeps : {A B : Type 0} (P : A → Type 0) (Q : B → Type 0) (f : A → Option B) → ((a : A) → P a → IfSome (f a) Q) → (o : Option A) → IfSome o P → IfSome (option_and_then f o) Q
and_then_keeps P Q f step None h = tt
and_then_keeps P Q f step (Some a) h = step a h

either_keeps : {A : Type 0} (P : A → Type 0) (b : Bool) (x y : Option A) → IfSome x P → IfSome y P → IfSome (if b then x else y) P
either_keeps P true x y h k = h
either_keeps P false x y h k = k

-- ---- numbers

-- an unsigned number is given only where a test says that it has 64 bits
unsigned_is_sized : (is_integer small : Bool) (n : ℕ) (other : Option Num) → (small ≡ true → n < 2 ^ 64) → IfSome other IsSizedNumber
    → IfSome (if is_integer && small then Some (unsigned n) else other) IsSizedNumber
unsigned_is_sized true true n other fits h = fits refl
unsigned_is_sized true false n other fits h = h
unsigned_is_sized false small n other fits h = h

-- what a numeral reads as has 64 bits, or is negative or a float
number_is_sized : (s : List ℕ) → IfSome (number_of s) IsSizedNumber
unfolding number_of
number_is_sized s = search (either_keeps, unsigned_is_sized, ltb-true)

-- ---- values

ordering_keeps : (o : Ordering) (a b c : Members) → HaveSized a → HaveSized b → HaveSized c → HaveSized (match_ordering o a b c)
ordering_keeps Less a b c p q r = p
ordering_keeps Equal a b c p q r = q
ordering_keeps Greater a b c p q r = r

-- members whose integers have 64 bits stay so when such a value is put among them
put_keeps : (k : List ℕ) (d : Data) (ms : Members) → IsSized d → HaveSized ms → HaveSized (put k d ms)
put_keeps k d no_members h hs = (h, tt)
put_keeps k d (member l e ms) h hs =
    ordering_keeps (slice_cmp nat_cmp k l) (member k d (member l e ms)) (member l d ms) (member l e (put k d ms)) (h, hs) (h, hs.1) (hs.0, put_keeps k d ms h hs.1)

-- each integer of what a JSON tree stands for has 64 bits
mutual
  value_is_sized : (j : json.Json) → IfSome (of_json j) IsSized
  value_is_sized json.null = tt
  value_is_sized (json.boolean b) = tt
  value_is_sized (json.number s) = map_keeps IsSizedNumber IsSized number (λ n h. h) (number_of s) (number_is_sized s)
  value_is_sized (json.string s) = tt
  value_is_sized (json.array js) = map_keeps AreSized IsSized array (λ ds h. h) (of_items js) (items_are_sized js)
  value_is_sized (json.object ms) = map_keeps HaveSized IsSized object (λ ds h. h) (of_members ms no_members) (members_have_sized ms no_members tt)

  items_are_sized : (js : json.Items) → IfSome (of_items js) AreSized
  items_are_sized json.no_items = tt
  items_are_sized (json.item j js) =
      and_then_keeps IsSized AreSized _ (λ d h. map_keeps AreSized AreSized (item d) (λ ds hs. (h, hs)) (of_items js) (items_are_sized js)) (of_json j) (value_is_sized j)

  members_have_sized : (ms : json.Members) (found : Members) → HaveSized found → IfSome (of_members ms found) HaveSized
  members_have_sized json.no_members found h = h
  members_have_sized (json.member k j ms) found h =
      and_then_keeps IsSized HaveSized _ (λ d sized. members_have_sized ms (put k d found) (put_keeps k d found sized h)) (of_json j) (value_is_sized j)

json_is_sized : (o : Option json.Json) → IfSome (option_and_then of_json o) IsSized
json_is_sized None = tt
json_is_sized (Some j) = value_is_sized j

-- each integer of a value that was read has 64 bits
pub read-IsSized : (text : List ℕ) (d : Data) → read text ≡ Some d → IsSized d
read-IsSized text d e = subst (λ o. IfSome o IsSized) e (search json_is_sized)

-- ---- the value of a key

found_is_sized : (o : Ordering) (e : Data) (rest : Option Data) → IsSized e → IfSome rest IsSized → IfSome (match_ordering o rest (Some e) rest) IsSized
found_is_sized Less e rest h hs = hs
found_is_sized Equal e rest h hs = h
found_is_sized Greater e rest h hs = hs

member_is_sized : (k : List ℕ) (ms : Members) → HaveSized ms → IfSome (get_member k ms) IsSized
member_is_sized k no_members h = tt
member_is_sized k (member l e ms) h = found_is_sized (slice_cmp nat_cmp k l) e (get_member k ms) h.0 (member_is_sized k ms h.1)

get_is_sized : (k : List ℕ) (d : Data) → IsSized d → IfSome (get k d) IsSized
get_is_sized k null h = tt
get_is_sized k (boolean b) h = tt
get_is_sized k (number n) h = tt
get_is_sized k (string s) h = tt
get_is_sized k (array ds) h = tt
get_is_sized k (object ms) h = member_is_sized k ms h

-- where each integer of a value has 64 bits, so has each of what a key gives of it
pub get-IsSized : (k : List ℕ) (d v : Data) → IsSized d → get k d ≡ Some v → IsSized v
get-IsSized k d v h e = subst (λ o. IfSome o IsSized) e (get_is_sized k d h)
