-- Values that are found one after another, up to the end of their list, and members up to the end of
-- an object that stands in another.
use Rattle.std.proofs.Common.{◌≡◌, ◌∙◌, ◌<◌, ◌≤◌, ◌^◌, ℕ, List, [], ◌∷◌, ◌++◌, Bool, true, Some, decimal, option_map, option_and_then, refl, sym, ap, subst, arith, append_assoc}
use Rattle.std.specs.List.{list_all}
use Rattle.json.specs.Json as form
use Rattle.json.specs.Json.{Json}
use Rattle.json.specs.Lex.{Lexeme, token, comma, colon, between, lex}
use Rattle.json.specs.Token as tokens
use Rattle.json.specs.Tree.{items_depth, members_depth}
use Rattle.serde_json.specs.Data as json
use Rattle.serde_json.specs.Data.{Data, put}
use Rattle.serde_json.specs.Read.{of_items, of_members}
use Rattle.serde_json.proofs.Numbers.{number_of-decimal}
use Rattle.qa_format.specs.format.Written.{integer, string, boolean}
use Rattle.qa_scan.specs.Lexes.{Lexes, lexemes, items_lexemes, members_lexemes, is_plain, IsQuoted, IsString, IsNumber, IsValueWithin}
use Rattle.qa_scan.proofs.Lexing.{ends_then, then, lexes_quoted}
use Rattle.qa_fast_reader.specs.Items.{IsSimpleOf, IsSomeValue, IsSomeMember, IsValueBefore, IsMemberWithin, FollowsItems, FollowsMembersWithin, items_after}

-- ---- values

pub simple_integer : (n : ℕ) (bytes rest : List ℕ) → n < 2 ^ 64 → Lexes bytes rest (token (tokens.number (decimal n)) ∷ []) → IsSimpleOf (integer n) bytes rest
simple_integer n bytes rest small lexed = record { form = form.number (decimal n); reads = ap (option_map json.number) (number_of-decimal n small); shallow = omega arith; lexed = lexed }

pub simple_boolean : (b : Bool) (bytes rest : List ℕ) → Lexes bytes rest (token (tokens.boolean b) ∷ []) → IsSimpleOf (boolean b) bytes rest
simple_boolean b bytes rest lexed = record { form = form.boolean b; reads = refl; shallow = omega arith; lexed = lexed }

pub simple_string : (text bytes rest : List ℕ) → list_all is_plain text ≡ true → IsQuoted text bytes rest → IsSimpleOf (string text) bytes rest
simple_string text bytes rest all_plain is = record { form = form.string text; reads = refl; shallow = omega arith; lexed = lexes_quoted text bytes rest all_plain is }

pub simple_null : (bytes rest : List ℕ) → Lexes bytes rest (token tokens.null ∷ []) → IsSimpleOf json.null bytes rest
simple_null bytes rest lexed = record { form = form.null; reads = refl; shallow = omega arith; lexed = lexed }

-- a string and a number in any form
pub any_text : (bytes rest : List ℕ) → IsString bytes rest → IsSomeValue 0 bytes rest
any_text bytes rest is = (string is.text, record { form = form.string is.text; reads = refl; shallow = omega arith; lexed = is.lexed })

pub any_number : (bytes rest : List ℕ) → IsNumber bytes rest → IsSomeValue 0 bytes rest
any_number bytes rest is = (json.number is.number, record { form = form.number is.text; reads = ap (option_map json.number) is.reads; shallow = omega arith; lexed = is.lexed })

-- what nests no deeper than so nests no deeper than more
pub value_within : (d e : ℕ) (value : Data) (bytes rest : List ℕ) → d ≤ e → IsValueWithin d value bytes rest → IsValueWithin e value bytes rest
value_within d e value bytes rest below one = record { form = one.form; reads = one.reads; shallow = omega (arith, one.shallow, below); lexed = one.lexed }

pub simple_is_value : (d : ℕ) (value : Data) (bytes rest : List ℕ) → IsSimpleOf value bytes rest → IsValueWithin d value bytes rest
simple_is_value d value bytes rest one = value_within 0 d value bytes rest (omega arith) one

-- ---- the list

pub empty_is_value : (d : ℕ) (bytes inside rest : List ℕ) → 0 < d → Lexes bytes inside (token tokens.begin_array ∷ []) → Lexes inside rest (token tokens.end_array ∷ [])
    → IsValueWithin d (json.array json.no_items) bytes rest
empty_is_value d bytes inside rest some opened closed = record { form = form.array form.no_items; reads = refl; shallow = omega (arith, some); lexed = then opened closed }

pub items_begin : (d : ℕ) (bytes rest : List ℕ) → Lexes bytes rest (token tokens.begin_array ∷ []) → FollowsItems d [] bytes rest
items_begin d bytes rest opened = record {
  ends = opened.ends;
  utf8 = opened.utf8;
  reads = λ j js values behind shallow read lexed. record {
    form = form.array (form.item j js);
    reads = ap (option_map json.array) read;
    shallow = shallow;
    lexes = opened.lexes ∙ ap (λ ls. token tokens.begin_array ∷ ls) lexed;
  };
}

-- one value more
after_more : (seen : List Data) (d : Data) (more : json.Items) → items_after (seen ++ d ∷ []) more ≡ items_after seen (json.item d more)
after_more [] d more = refl
after_more (e ∷ seen) d more = ap (json.item e) (after_more seen d more)

-- a value before others
item_then : (e d : ℕ) (value : Data) (seen : List Data) (bytes rest next : List ℕ) → d < e → (before : FollowsItems e seen bytes rest) (one : IsValueWithin d value rest next) (js : form.Items) (values : json.Items)
    (behind : List Lexeme) → items_depth js < e → of_items js ≡ Some values → lex between next ≡ items_lexemes true js ++ behind
    → IsValueBefore e (json.array (items_after (seen ++ value ∷ []) values)) behind bytes
item_then e d value seen bytes rest next below before one js values behind shallow read lexed =
    let P : json.Items → Type 0 = λ ds. IsValueBefore e (json.array ds) behind bytes in
    subst P (sym (after_more seen value values)) (before.reads one.form js (json.item value values) behind
    (omega (arith, one.shallow, below, shallow))
    (ap (option_and_then (λ d. option_map (json.item d) (of_items js))) one.reads ∙ ap (option_map (json.item value)) read)
    (one.lexed.lexes ∙ ap (λ ls. lexemes one.form ++ ls) lexed ∙ sym (append_assoc (lexemes one.form) (items_lexemes true js) behind)))

pub items_go_on : (e d : ℕ) (value : Data) (seen : List Data) (bytes rest next more : List ℕ) → d < e → FollowsItems e seen bytes rest → IsValueWithin d value rest next → Lexes next more (comma ∷ [])
    → FollowsItems e (seen ++ value ∷ []) bytes more
items_go_on e d value seen bytes rest next more below before one parted = record {
  ends = ends_then before.ends (ends_then one.lexed.ends parted.ends);
  utf8 = λ u. before.utf8 (one.lexed.utf8 (parted.utf8 u));
  reads = λ j js values behind shallow read lexed.
      item_then e d value seen bytes rest next below before one (form.item j js) values behind (omega (arith, shallow)) read (parted.lexes ∙ ap (λ ls. comma ∷ ls) lexed);
}

pub items_end : (e d : ℕ) (value : Data) (seen : List Data) (bytes rest next more : List ℕ) → d < e → FollowsItems e seen bytes rest → IsValueWithin d value rest next → Lexes next more (token tokens.end_array ∷ [])
    → IsValueWithin e (json.array (items_after (seen ++ value ∷ []) json.no_items)) bytes more
items_end e d value seen bytes rest next more below before one closed =
    let whole = item_then e d value seen bytes rest next below before one form.no_items json.no_items (lex between more) (omega (arith, below)) refl closed.lexes in
    record {
      form = whole.form;
      reads = whole.reads;
      shallow = whole.shallow;
      lexed = record { ends = ends_then before.ends (ends_then one.lexed.ends closed.ends); lexes = whole.lexes; utf8 = λ u. before.utf8 (one.lexed.utf8 (closed.utf8 u)) };
    }

-- ---- the object that stands in another

-- a key with its colon, and a value
pub member_within : (d : ℕ) (key : List ℕ) (value : Data) (bytes middle behind rest : List ℕ) → Lexes bytes middle (token (tokens.string key) ∷ []) → Lexes middle behind (colon ∷ [])
    → IsValueWithin d value behind rest → IsMemberWithin d key value bytes rest
member_within d key value bytes middle behind rest named at_colon is = record {
  form = is.form;
  reads = is.reads;
  shallow = is.shallow;
  lexed = then named (then at_colon is.lexed);
}

pub string_member : (d : ℕ) (key : List ℕ) (value : Data) (bytes middle behind rest : List ℕ) → list_all is_plain key ≡ true → IsQuoted key bytes middle → Lexes middle behind (colon ∷ [])
    → IsValueWithin d value behind rest → IsMemberWithin d key value bytes rest
string_member d key value bytes middle behind rest all_plain quoted at_colon is = member_within d key value bytes middle behind rest (lexes_quoted key bytes middle all_plain quoted) at_colon is

pub some_member : (d : ℕ) (bytes middle behind rest : List ℕ) → IsString bytes middle → Lexes middle behind (colon ∷ []) → IsSomeValue d behind rest → IsSomeMember d bytes rest
some_member d bytes middle behind rest named at_colon is = (named.text, is.0, member_within d named.text is.0 bytes middle behind rest named.lexed at_colon is.1)

pub empty_object_is_value : (d : ℕ) (bytes inside rest : List ℕ) → 0 < d → Lexes bytes inside (token tokens.begin_object ∷ []) → Lexes inside rest (token tokens.end_object ∷ [])
    → IsValueWithin d (json.object json.no_members) bytes rest
empty_object_is_value d bytes inside rest some opened closed = record { form = form.object form.no_members; reads = refl; shallow = omega (arith, some); lexed = then opened closed }

pub inner_begins : (d : ℕ) (bytes rest : List ℕ) → Lexes bytes rest (token tokens.begin_object ∷ []) → FollowsMembersWithin d json.no_members bytes rest
inner_begins d bytes rest opened = record {
  ends = opened.ends;
  utf8 = opened.utf8;
  reads = λ key j ms all behind shallow put_in lexed. record {
    form = form.object (form.member key j ms);
    reads = ap (option_map json.object) put_in;
    shallow = shallow;
    lexes = opened.lexes ∙ ap (λ ls. token tokens.begin_object ∷ ls) lexed;
  };
}

-- a member before others
inner_then : (e d : ℕ) (key : List ℕ) (value : Data) (seen : json.Members) (bytes rest next : List ℕ) → d < e → (before : FollowsMembersWithin e seen bytes rest) (one : IsMemberWithin d key value rest next)
    (ms : form.Members) (all : json.Members) (behind : List Lexeme) → members_depth ms < e → of_members ms (put key value seen) ≡ Some all → lex between next ≡ members_lexemes true ms ++ behind
    → IsValueBefore e (json.object all) behind bytes
inner_then e d key value seen bytes rest next below before one ms all behind shallow put_in lexed =
    before.reads key one.form ms all behind (omega (arith, one.shallow, below, shallow))
    (ap (option_and_then (λ v. of_members ms (put key v seen))) one.reads ∙ put_in)
    (one.lexed.lexes
    ∙ ap (λ ls. token (tokens.string key) ∷ colon ∷ ls) (ap (λ ls. lexemes one.form ++ ls) lexed ∙ sym (append_assoc (lexemes one.form) (members_lexemes true ms) behind)))

pub inner_goes_on : (e d : ℕ) (key : List ℕ) (value : Data) (seen : json.Members) (bytes rest next more : List ℕ) → d < e → FollowsMembersWithin e seen bytes rest → IsMemberWithin d key value rest next
    → Lexes next more (comma ∷ []) → FollowsMembersWithin e (put key value seen) bytes more
inner_goes_on e d key value seen bytes rest next more below before one parted = record {
  ends = ends_then before.ends (ends_then one.lexed.ends parted.ends);
  utf8 = λ u. before.utf8 (one.lexed.utf8 (parted.utf8 u));
  reads = λ k j ms all behind shallow put_in lexed.
      inner_then e d key value seen bytes rest next below before one (form.member k j ms) all behind (omega (arith, shallow)) put_in (parted.lexes ∙ ap (λ ls. comma ∷ ls) lexed);
}

pub inner_ends : (e d : ℕ) (key : List ℕ) (value : Data) (seen : json.Members) (bytes rest next more : List ℕ) → d < e → FollowsMembersWithin e seen bytes rest → IsMemberWithin d key value rest next
    → Lexes next more (token tokens.end_object ∷ []) → IsValueWithin e (json.object (put key value seen)) bytes more
inner_ends e d key value seen bytes rest next more below before one closed =
    let whole = inner_then e d key value seen bytes rest next below before one form.no_members (put key value seen) (lex between more) (omega (arith, below)) refl closed.lexes in
    record {
      form = whole.form;
      reads = whole.reads;
      shallow = whole.shallow;
      lexed = record { ends = ends_then before.ends (ends_then one.lexed.ends closed.ends); lexes = whole.lexes; utf8 = λ u. before.utf8 (one.lexed.utf8 (closed.utf8 u)) };
    }
