-- A value of null, integers of 64 bits, booleans, ASCII strings, lists, and objects whose keys rise:
-- its text without spaces is UTF-8, and is read as that very value.
use Rattle.std.proofs.Common.{◌≡◌, ℕ, suc, nat_lt, ◌&&◌, ◌≤◌, max, List, [], ◌∷◌, Bool, true, false, Some, option_map, option_and_then, IsUtf8, decimal, Greater, refl, sym, ap, ap₂, ◌∙◌, arith, append-nil}
use Rattle.std.proofs.lemmas.Cmp.{nat_list_cmp_total}
use Rattle.std.proofs.lemmas.Fmt.{IsAscii-decimal}
use Rattle.std.proofs.lemmas.Str.{IsUtf8-append, IsUtf8-nil, IsUtf8-from_ascii, is_utf8-from_IsUtf8}
use Rattle.std.specs.Cmp.Lexicographic.{slice_cmp}
use Rattle.std.specs.Ordering.{nat_cmp, ordering_reverse}
use Rattle.std.specs.Prelude.{⊤}
use Rattle.std.specs.Str.{is_utf8}
use Rattle.json.specs.Json as json
use Rattle.json.specs.Lex.{tokens}
use Rattle.json.specs.Tree as tree
use Rattle.json.proofs.Printed.Decimals.{IsNumber-decimal}
use Rattle.json.proofs.Printed.Tokens.{tokens-print}
use Rattle.json.proofs.Printed.Trees.{value-json_tokens, ArePrintable-json_tokens}
use Rattle.json.proofs.Printed.Utf8.{are_ascii, IsUtf8-are_ascii, IsUtf8-quoted, IsUtf8-boolean}
pub use Rattle.qa_format.specs.format.Simple.{is_ascii, IsUnsigned, IsBefore, IsSimple, AreSimple, HaveSimple}
use Rattle.serde_json.specs.Data.{Num, unsigned, negative, float, Data, null, boolean, number, string, array, object, Items, no_items, item, Members, no_members, member, put, depth, items_depth, members_depth}
use Rattle.serde_json.specs.Read.{number_of, of_json, of_items, of_members, read}
use Rattle.serde_json.specs.Written.{number_text, outline, items_outline, members_outline, comma_if, compact_text, items_text, members_text}
use Rattle.serde_json.proofs.Numbers.{number_of-decimal}
use Rattle.serde_json.proofs.Texts.{print-outline}

-- ---- members behind others

-- the first, and then the second
abbrev join : Members → Members → Members
join no_members ms = ms
join (member k d done) ms = member k d (join done ms)

join_none : (done : Members) → join done no_members ≡ done
join_none no_members = refl
join_none (member k d done) = ap (member k d) (join_none done)

-- one member moves from the second to the first
join_next : (done : Members) (k : List ℕ) (d : Data) (ms : Members) → join (join done (member k d no_members)) ms ≡ join done (member k d ms)
join_next no_members k d ms = refl
join_next (member l e done) k d ms = ap (member l e) (join_next done k d ms)

-- each key of the first comes before each key of the second
abbrev AreBefore : Members → Members → Type 0
AreBefore no_members ms = ⊤
AreBefore (member k d done) ms = IsBefore k ms × AreBefore done ms

AreBefore-next : (done : Members) (k : List ℕ) (d : Data) (ms : Members) → AreBefore done (member k d ms) → IsBefore k ms → AreBefore (join done (member k d no_members)) ms
AreBefore-next no_members k d ms h first = (first, tt)
AreBefore-next (member l e done) k d ms h first = (h.0.1, AreBefore-next done k d ms h.1 first)

-- a key behind all others goes in last
put_behind : (done : Members) (k : List ℕ) (d : Data) (ms : Members) → AreBefore done (member k d ms) → put k d done ≡ join done (member k d no_members)
put_behind no_members k d ms h = refl
put_behind (member l e done) k d ms h =
    let above : slice_cmp nat_cmp k l ≡ Greater = nat_list_cmp_total.antisymm k l ∙ ap ordering_reverse h.0.0 in
    rw above (ap (member l e) (put_behind done k d ms h.1))

-- ---- the outline of a simple value stands for the value

number_is : (n : Num) → IsUnsigned n → number_of (number_text n) ≡ Some n
number_is (unsigned n) h = number_of-decimal n h
number_is (negative z) h = absurd h
number_is (float x) h = absurd h

mutual
  pub of_json-outline : (d : Data) → IsSimple d → of_json (outline d) ≡ Some d
  of_json-outline null h = refl
  of_json-outline (boolean b) h = refl
  of_json-outline (number n) h = ap (option_map number) (number_is n h)
  of_json-outline (string s) h = refl
  of_json-outline (array ds) h = ap (option_map array) (of_items-outline ds h)
  of_json-outline (object ms) h = ap (option_map object) (of_members-outline ms no_members h tt)

  of_items-outline : (ds : Items) → AreSimple ds → of_items (items_outline ds) ≡ Some ds
  of_items-outline no_items h = refl
  of_items-outline (item d ds) h =
      ap (option_and_then (λ e. option_map (item e) (of_items (items_outline ds)))) (of_json-outline d h.0)
      ∙ ap (option_map (item d)) (of_items-outline ds h.1)

  of_members-outline : (ms done : Members) → HaveSimple ms → AreBefore done ms → of_members (members_outline ms) done ≡ Some (join done ms)
  of_members-outline no_members done h order = ap Some (sym (join_none done))
  of_members-outline (member k d ms) done h order =
      ap (option_and_then (λ e. of_members (members_outline ms) (put k e done))) (of_json-outline d h.2)
      ∙ ap (of_members (members_outline ms)) (put_behind done k d ms order)
      ∙ of_members-outline ms (join done (member k d no_members)) h.3 (AreBefore-next done k d ms order h.1)
      ∙ ap Some (join_next done k d ms)

-- ---- it can be printed, and nests as deep as the value

number_is_printable : (n : Num) → IsUnsigned n → tree.HasNumbers (json.number (number_text n))
number_is_printable (unsigned n) h = IsNumber-decimal n h
number_is_printable (negative z) h = absurd h
number_is_printable (float x) h = absurd h

mutual
  pub HasNumbers-outline : (d : Data) → IsSimple d → tree.HasNumbers (outline d)
  HasNumbers-outline null h = tt
  HasNumbers-outline (boolean b) h = tt
  HasNumbers-outline (number n) h = number_is_printable n h
  HasNumbers-outline (string s) h = tt
  HasNumbers-outline (array ds) h = ItemsHaveNumbers-outline ds h
  HasNumbers-outline (object ms) h = MembersHaveNumbers-outline ms h

  ItemsHaveNumbers-outline : (ds : Items) → AreSimple ds → tree.ItemsHaveNumbers (items_outline ds)
  ItemsHaveNumbers-outline no_items h = tt
  ItemsHaveNumbers-outline (item d ds) h = (HasNumbers-outline d h.0, ItemsHaveNumbers-outline ds h.1)

  MembersHaveNumbers-outline : (ms : Members) → HaveSimple ms → tree.MembersHaveNumbers (members_outline ms)
  MembersHaveNumbers-outline no_members h = tt
  MembersHaveNumbers-outline (member k d ms) h = (HasNumbers-outline d h.2, MembersHaveNumbers-outline ms h.3)

mutual
  pub depth-outline : (d : Data) → tree.depth (outline d) ≡ depth d
  depth-outline null = refl
  depth-outline (boolean b) = refl
  depth-outline (number n) = refl
  depth-outline (string s) = refl
  depth-outline (array ds) = ap suc (items_depth-outline ds)
  depth-outline (object ms) = ap suc (members_depth-outline ms)

  items_depth-outline : (ds : Items) → tree.items_depth (items_outline ds) ≡ items_depth ds
  items_depth-outline no_items = refl
  items_depth-outline (item d ds) = ap₂ max (depth-outline d) (items_depth-outline ds)

  members_depth-outline : (ms : Members) → tree.members_depth (members_outline ms) ≡ members_depth ms
  members_depth-outline no_members = refl
  members_depth-outline (member k d ms) = ap₂ max (depth-outline d) (members_depth-outline ms)

-- ---- what is written is read

-- the text has the tokens of the outline
tokens-compact_text : (d : Data) → IsSimple d → tokens (compact_text d) ≡ tree.json_tokens (outline d)
tokens-compact_text d h =
    ap tokens (sym (print-outline d)) ∙ tokens-print (tree.json_tokens (outline d)) (ArePrintable-json_tokens (outline d) (HasNumbers-outline d h))

-- a simple value is written as a text that is read as that very value
pub read-compact_text : (d : Data) → IsSimple d → depth d ≤ 127 → read (compact_text d) ≡ Some d
read-compact_text d h shallow =
    let ts = tree.json_tokens (outline d) in
    ap (λ p. option_and_then of_json (option_and_then (λ q. json.if_last q.0 q.1) p))
    (ap (json.value 127) (tokens-compact_text d h ∙ sym (append-nil ts)) ∙ value-json_tokens (outline d) 127 [] (omega (arith, depth-outline d)))
    ∙ of_json-outline d h

-- ---- what is written is UTF-8

ascii_is : (s : List ℕ) → is_ascii s ≡ are_ascii s
ascii_is [] = refl
ascii_is (x ∷ s) = ap (λ b. nat_lt x 128 && b) (ascii_is s)

pub IsUtf8-is_ascii : (s : List ℕ) → is_ascii s ≡ true → IsUtf8 s
IsUtf8-is_ascii s h = IsUtf8-are_ascii s (sym (ascii_is s) ∙ h)

IsUtf8-number : (n : Num) → IsUnsigned n → IsUtf8 (number_text n)
IsUtf8-number (unsigned n) h = IsUtf8-from_ascii (decimal n) (IsAscii-decimal n h)
IsUtf8-number (negative z) h = absurd h
IsUtf8-number (float x) h = absurd h

pub IsUtf8-comma_if : (later : Bool) → IsUtf8 (comma_if later)
IsUtf8-comma_if true = IsUtf8-are_ascii _ refl
IsUtf8-comma_if false = IsUtf8-nil

-- an ASCII byte before others
pub byte_then : (b : ℕ) (bs : List ℕ) → are_ascii (b ∷ []) ≡ true → IsUtf8 bs → IsUtf8 (b ∷ bs)
byte_then b bs small u = IsUtf8-append (b ∷ []) bs (IsUtf8-are_ascii (b ∷ []) small) u

mutual
  pub IsUtf8-compact_text : (d : Data) → IsSimple d → IsUtf8 (compact_text d)
  IsUtf8-compact_text null h = IsUtf8-are_ascii _ refl
  IsUtf8-compact_text (boolean b) h = IsUtf8-boolean b
  IsUtf8-compact_text (number n) h = IsUtf8-number n h
  IsUtf8-compact_text (string s) h = IsUtf8-quoted s (IsUtf8-is_ascii s h)
  IsUtf8-compact_text (array ds) h = byte_then 91 _ refl (IsUtf8-items_text false ds h)
  IsUtf8-compact_text (object ms) h = byte_then 123 _ refl (IsUtf8-members_text false ms h)

  IsUtf8-items_text : (later : Bool) (ds : Items) → AreSimple ds → IsUtf8 (items_text later ds)
  IsUtf8-items_text later no_items h = IsUtf8-are_ascii _ refl
  IsUtf8-items_text later (item d ds) h =
      IsUtf8-append _ _ (IsUtf8-comma_if later) (IsUtf8-append _ _ (IsUtf8-compact_text d h.0) (IsUtf8-items_text true ds h.1))

  IsUtf8-members_text : (later : Bool) (ms : Members) → HaveSimple ms → IsUtf8 (members_text later ms)
  IsUtf8-members_text later no_members h = IsUtf8-are_ascii _ refl
  IsUtf8-members_text later (member k d ms) h =
      IsUtf8-append _ _ (IsUtf8-comma_if later)
      (IsUtf8-append _ _ (IsUtf8-quoted k (IsUtf8-is_ascii k h.0))
      (byte_then 58 _ refl (IsUtf8-append _ _ (IsUtf8-compact_text d h.2) (IsUtf8-members_text true ms h.3))))

-- a simple value is written as UTF-8
pub is_utf8-compact_text : (d : Data) → IsSimple d → is_utf8 (compact_text d) ≡ true
is_utf8-compact_text d h = is_utf8-from_IsUtf8 (compact_text d) (IsUtf8-compact_text d h)
