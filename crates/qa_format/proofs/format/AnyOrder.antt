-- Objects whose keys stand in any order, and may stand there more than once: what their text without spaces reads as, and
-- what a key then gives.
use Rattle.std.proofs.Common.{◌≡◌, ◌∙◌, ℕ, ◌≤◌, List, [], Bool, true, false, Option, Some, Ok, option_map, option_and_then, IsUtf8, Ordering, Less, Equal, Greater, refl, sym, ap, arith, append-nil}
use Rattle.std.proofs.lemmas.Cmp.{nat_list_cmp_total, tied_itself, alike_right}
use Rattle.std.proofs.lemmas.Str.{IsUtf8-append, is_utf8-from_IsUtf8}
use Rattle.std.specs.Cmp.Lexicographic.{slice_cmp}
use Rattle.std.specs.Ordering.{nat_cmp, match_ordering}
use Rattle.std.specs.Str.{is_utf8}
use Rattle.json.specs.Json as json
use Rattle.json.specs.Lex.{tokens}
use Rattle.json.specs.Tree as tree
use Rattle.json.proofs.Printed.Tokens.{tokens-print}
use Rattle.json.proofs.Printed.Trees.{value-json_tokens, ArePrintable-json_tokens}
use Rattle.json.proofs.Printed.Utf8.{IsUtf8-are_ascii, IsUtf8-quoted}
pub use Rattle.qa_format.specs.format.Simple.{IsKept, AreKept, put_all}
use Rattle.serde_json.specs.Data.{Data, object, Members, no_members, member, put, members_depth}
use Rattle.serde_json.specs.Find.{get_member}
use Rattle.serde_json.specs.Read.{of_json, of_members, read}
use Rattle.serde_json.specs.Written.{outline, members_outline, compact_text, members_text}
use Rattle.serde_json.proofs.Texts.{print-outline}
use Rattle.qa_format.specs.format.Reading.{json_of}
use Rattle.qa_format.proofs.format.Compact.{of_json-outline, HasNumbers-outline, depth-outline, IsUtf8-compact_text, IsUtf8-comma_if, IsUtf8-is_ascii, byte_then}

-- ---- members in any order

members_are : (ms found : Members) → AreKept ms → of_members (members_outline ms) found ≡ Some (put_all found ms)
members_are no_members found h = refl
members_are (member k d ms) found h =
    ap (option_and_then (λ e. of_members (members_outline ms) (put k e found))) (of_json-outline d h.1.simple) ∙ members_are ms (put k d found) h.2

have_numbers : (ms : Members) → AreKept ms → tree.MembersHaveNumbers (members_outline ms)
have_numbers no_members h = tt
have_numbers (member k d ms) h = (HasNumbers-outline d h.1.simple, have_numbers ms h.2)

are_shallow : (ms : Members) → AreKept ms → members_depth ms ≤ 2
are_shallow no_members h = omega arith
are_shallow (member k d ms) h = omega (arith, h.1.shallow, are_shallow ms h.2)

-- ---- the text is read

are_tokens : (ms : Members) → AreKept ms → tokens (compact_text (object ms)) ≡ tree.json_tokens (outline (object ms))
are_tokens ms h =
    let j = outline (object ms) in
    ap tokens (sym (print-outline (object ms))) ∙ tokens-print (tree.json_tokens j) (ArePrintable-json_tokens j (have_numbers ms h))

reads : (ms : Members) → AreKept ms → read (compact_text (object ms)) ≡ Some (object (put_all no_members ms))
reads ms h =
    let j = outline (object ms) in
    let ts = tree.json_tokens j in
    ap (λ p. option_and_then of_json (option_and_then (λ q. json.if_last q.0 q.1) p))
    (ap (json.value 127) (are_tokens ms h ∙ sym (append-nil ts)) ∙ value-json_tokens j 127 [] (omega (arith, depth-outline (object ms), are_shallow ms h)))
    ∙ ap (option_map object) (members_are ms no_members h)

are_utf8 : (later : Bool) (ms : Members) → AreKept ms → IsUtf8 (members_text later ms)
are_utf8 later no_members h = IsUtf8-are_ascii _ refl
are_utf8 later (member k d ms) h =
    IsUtf8-append _ _ (IsUtf8-comma_if later)
    (IsUtf8-append _ _ (IsUtf8-quoted k (IsUtf8-is_ascii k h.0))
    (byte_then 58 _ refl (IsUtf8-append _ _ (IsUtf8-compact_text d h.1.simple) (are_utf8 true ms h.2))))

is_text : (ms : Members) → AreKept ms → is_utf8 (compact_text (object ms)) ≡ true
is_text ms h = is_utf8-from_IsUtf8 (compact_text (object ms)) (byte_then 123 _ refl (are_utf8 false ms h))

-- the text of an object whose keys stand in any order is read as the object of these keys in their order
pub json_of-members : (ms : Members) → AreKept ms → json_of (compact_text (object ms)) ≡ Ok (object (put_all no_members ms))
unfolding json_of
json_of-members ms h = rw (is_text ms h, reads ms h) refl

-- ---- what a key gives

other : (o : Ordering) (a b : Option Data) → (o ≡ Equal → ⊥) → match_ordering o a b a ≡ a
other Less a b h = refl
other Equal a b h = absurd (h refl)
other Greater a b h = refl

same_by : (o : Ordering) (k l : List ℕ) (d e : Data) (ms : Members) → slice_cmp nat_cmp k l ≡ o → get_member k (put k d ms) ≡ Some d
    → get_member k (match_ordering o (member k d (member l e ms)) (member l d ms) (member l e (put k d ms))) ≡ Some d
same_by Less k l d e ms is h = rw (tied_itself nat_list_cmp_total k) refl
same_by Equal k l d e ms is h = rw is refl
same_by Greater k l d e ms is h = rw is h

-- a key gives the value that was put at it
pub get_put : (k : List ℕ) (d : Data) (ms : Members) → get_member k (put k d ms) ≡ Some d
get_put k d no_members = rw (tied_itself nat_list_cmp_total k) refl
get_put k d (member l e ms) = same_by (slice_cmp nat_cmp k l) k l d e ms refl (get_put k d ms)

other_by : (o : Ordering) (j k l : List ℕ) (d e : Data) (ms : Members) → slice_cmp nat_cmp k l ≡ o → (slice_cmp nat_cmp j k ≡ Equal → ⊥)
    → get_member j (put k d ms) ≡ get_member j ms
    → get_member j (match_ordering o (member k d (member l e ms)) (member l d ms) (member l e (put k d ms))) ≡ get_member j (member l e ms)
other_by Less j k l d e ms is ne h = other (slice_cmp nat_cmp j k) (get_member j (member l e ms)) (Some d) ne
other_by Equal j k l d e ms is ne h =
    let apart : slice_cmp nat_cmp j l ≡ Equal → ⊥ = λ q. ne (alike_right nat_list_cmp_total k l j is ∙ q) in
    other (slice_cmp nat_cmp j l) (get_member j ms) (Some d) apart ∙ sym (other (slice_cmp nat_cmp j l) (get_member j ms) (Some e) apart)
other_by Greater j k l d e ms is ne h = ap (λ g. match_ordering (slice_cmp nat_cmp j l) g (Some e) g) h

-- any other key gives what it gave
pub get_put_other : (j k : List ℕ) (d : Data) (ms : Members) → (slice_cmp nat_cmp j k ≡ Equal → ⊥) → get_member j (put k d ms) ≡ get_member j ms
get_put_other j k d no_members ne = other (slice_cmp nat_cmp j k) (get_member j no_members) (Some d) ne
get_put_other j k d (member l e ms) ne = other_by (slice_cmp nat_cmp k l) j k l d e ms refl ne (get_put_other j k d ms ne)
