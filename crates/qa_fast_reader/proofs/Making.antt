-- The JSON values that are made of a flat object.
use Rattle.std.proofs.Common.{◌≡◌, ◌∙◌, ◌<◌, ◌^◌, ℕ, List, [], ◌∷◌, ◌++◌, length, Bool, true, Ok, String, BTreeMap, Vec, Global, map, string_bytes, string_cmp, decimal, refl, sym, ap, subst, arith, rules}
use Rattle.std.specs.BTreeMap.{insert_entry}
use Rattle.std.specs.List.{list_all}
use Rattle.json.specs.Lex.{token, comma, colon}
use Rattle.json.specs.Token as tokens
use Rattle.serde_json.specs.Data as json
use Rattle.serde_json.specs.Data.{Data, Members, put}
use Rattle.serde_json.specs.View.{view, items_of, items_view, members_view}
use Rattle.serde_json.specs.declared.value.Value as value
use Rattle.serde_json.specs.declared.value.Value.{Value, the_lemmas}
use Rattle.serde_json.proofs.Views.{Entry, view-Array, view-Object, members_view-insert_entry}
use Rattle.qa_format.specs.format.Reading.{json_of}
use Rattle.qa_format.specs.format.Written.{integer, string, boolean}
use Rattle.qa_scan.specs.Lexes.{Lexes, is_plain, IsQuoted, deepest, IsValueOf}
use Rattle.qa_fast_reader.specs.Found.{FollowsMembers, PutsMember}
use Rattle.qa_fast_reader.specs.Items.{IsSimpleOf, FollowsItems, items_after}
use Rattle.qa_fast_reader.proofs.Items.{simple_integer, simple_boolean, simple_string, simple_null, empty_is_value, items_go_on, items_end}
use Rattle.qa_fast_reader.proofs.Taking.{is_member, members_begin, members_go_on, members_end}

-- ---- simple values

view-String : (s : String Global) → view (value.String s) ≡ string (string_bytes s)
view-String s = search (rules, the_lemmas)

view-Bool : (b : Bool) → view (value.Bool b) ≡ boolean b
view-Bool b = search (rules, the_lemmas)

view-Null : view value.Null ≡ json.null
view-Null = search (rules, the_lemmas)

seen_as : (v : Value) (d : Data) (bytes rest : List ℕ) → view v ≡ d → IsSimpleOf d bytes rest → IsSimpleOf (view v) bytes rest
seen_as v d bytes rest is one = let P : Data → Type 0 = λ e. IsSimpleOf e bytes rest in subst P (sym is) one

pub string_made : (s : String Global) (text bytes rest : List ℕ) → string_bytes s ≡ text → list_all is_plain text ≡ true → IsQuoted text bytes rest → IsSimpleOf (view (value.String s)) bytes rest
string_made s text bytes rest is all_plain quoted = seen_as (value.String s) (string text) bytes rest (view-String s ∙ ap string is) (simple_string text bytes rest all_plain quoted)

pub boolean_made : (b : Bool) (bytes rest : List ℕ) → Lexes bytes rest (token (tokens.boolean b) ∷ []) → IsSimpleOf (view (value.Bool b)) bytes rest
boolean_made b bytes rest lexed = seen_as (value.Bool b) (boolean b) bytes rest (view-Bool b) (simple_boolean b bytes rest lexed)

pub null_made : (bytes rest : List ℕ) → Lexes bytes rest (token tokens.null ∷ []) → IsSimpleOf (view value.Null) bytes rest
null_made bytes rest lexed = seen_as value.Null json.null bytes rest view-Null (simple_null bytes rest lexed)

pub integer_made : (v : Value) (n : ℕ) (bytes rest : List ℕ) → view v ≡ integer n → n < 2 ^ 64 → Lexes bytes rest (token (tokens.number (decimal n)) ∷ []) → IsSimpleOf (view v) bytes rest
integer_made v n bytes rest is small lexed = seen_as v (integer n) bytes rest is (simple_integer n bytes rest small lexed)

-- ---- lists

views_more : (vs : List Value) (v : Value) → map view (vs ++ v ∷ []) ≡ map view vs ++ view v ∷ []
views_more [] v = refl
views_more (w ∷ vs) v = ap (λ ds. view w ∷ ds) (views_more vs v)

all_seen : (ds : List Data) → items_after ds json.no_items ≡ items_of ds
all_seen [] = refl
all_seen (d ∷ ds) = ap (json.item d) (all_seen ds)

pub made_go_on : (v : Value) (old new : List Value) (whole rest next more : List ℕ) → FollowsItems deepest (map view old) whole rest → IsSimpleOf (view v) rest next → new ≡ old ++ v ∷ [] → Lexes next more (comma ∷ [])
    → FollowsItems deepest (map view new) whole more
made_go_on v old new whole rest next more before one is parted =
    let P : List Data → Type 0 = λ ds. FollowsItems deepest ds whole more in
    subst P (sym (ap (map view) is ∙ views_more old v)) (items_go_on deepest 0 (view v) (map view old) whole rest next more (omega arith) before one parted)

pub made_end : (v : Value) (old new : List Value) (whole rest next more : List ℕ) → FollowsItems deepest (map view old) whole rest → IsSimpleOf (view v) rest next → new ≡ old ++ v ∷ [] → Lexes next more (token tokens.end_array ∷ [])
    → IsValueOf (json.array (items_view new)) whole more
made_end v old new whole rest next more before one is closed =
    let P : json.Items → Type 0 = λ ds. IsValueOf (json.array ds) whole more in
    subst P (all_seen (map view old ++ view v ∷ []) ∙ ap items_of (sym (ap (map view) is ∙ views_more old v))) (items_end deepest 0 (view v) (map view old) whole rest next more (omega arith) before one closed)

pub list_made : (v : Vec Value Global) (whole rest : List ℕ) → IsValueOf (json.array (items_view v.items)) whole rest → IsValueOf (view (value.Array v)) whole rest
list_made v whole rest is = let P : Data → Type 0 = λ d. IsValueOf d whole rest in subst P (sym (view-Array v)) is

pub empty_made : (v : Vec Value Global) (bytes inside rest : List ℕ) → v.items ≡ [] → Lexes bytes inside (token tokens.begin_array ∷ []) → Lexes inside rest (token tokens.end_array ∷ []) → IsValueOf (view (value.Array v)) bytes rest
empty_made v bytes inside rest none opened closed =
    let P : Data → Type 0 = λ d. IsValueOf d bytes rest in
    subst P (sym (view-Array v ∙ ap (λ vs. json.array (items_view vs)) none)) (empty_is_value deepest bytes inside rest (omega arith) opened closed)

-- ---- members

pub member_made : (key : List ℕ) (name : String Global) (v : Value) (old new : List Entry) (bytes middle behind rest : List ℕ) → string_bytes name ≡ key → list_all is_plain key ≡ true → IsQuoted key bytes middle
    → Lexes middle behind (colon ∷ []) → IsValueOf (view v) behind rest → new ≡ insert_entry string_cmp old name v → PutsMember (members_view old) (members_view new) bytes rest
member_made key name v old new bytes middle behind rest named all_plain quoted at_colon is put_in = record {
  key = key;
  value = view v;
  member = is_member key (view v) bytes middle behind rest all_plain quoted at_colon is;
  is = ap members_view put_in ∙ members_view-insert_entry old name v ∙ ap (λ k. put k (view v) (members_view old)) named;
}

pub object_begins : (bytes rest : List ℕ) (found : List Entry) → found ≡ [] → Lexes bytes rest (token tokens.begin_object ∷ []) → FollowsMembers (members_view found) bytes rest
object_begins bytes rest found none opened = let P : List Entry → Type 0 = λ es. FollowsMembers (members_view es) bytes rest in subst P (sym none) (members_begin bytes rest opened)

pub object_goes_on : (old new : Members) (bytes rest behind more : List ℕ) → FollowsMembers old bytes rest → PutsMember old new rest behind → Lexes behind more (comma ∷ []) → FollowsMembers new bytes more
object_goes_on old new bytes rest behind more before one parted =
    let P : Members → Type 0 = λ ms. FollowsMembers ms bytes more in
    subst P (sym one.is) (members_go_on one.key one.value old bytes rest behind more before one.member parted)

pub object_ends : (m : BTreeMap (String Global) Value) (old : Members) (bytes rest behind end : List ℕ) → FollowsMembers old bytes rest → PutsMember old (members_view m.entries) rest behind
    → Lexes behind end (token tokens.end_object ∷ []) → length end ≡ 0 → json_of bytes ≡ Ok (view (value.Object m))
object_ends m old bytes rest behind end before one closed none =
    members_end one.key one.value old bytes rest behind end before one.member closed none ∙ ap Ok (ap json.object (sym one.is) ∙ sym (view-Object m))
