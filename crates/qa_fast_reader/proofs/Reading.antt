-- Bytes that lex to the members of an object are read as that object.
use Rattle.std.proofs.Common.{◌≡◌, ◌∙◌, ℕ, ◌≤◌, List, [], ◌∷◌, ◌++◌, Bool, true, false, cond, Some, Ok, IsUtf8, refl, sym, ap, arith, append_assoc, append-nil, option_map, option_and_then, Err, ok_or, None, Option, inl, inr}
use Rattle.std.proofs.lemmas.Str.{is_utf8-from_IsUtf8}
use Rattle.std.specs.List.{list_all}
use Rattle.std.proofs.lemmas.Bool.{and_parts, or_cases, eqb-true, cases_Bool}
use Rattle.std.specs.Str.{is_utf8}
use Rattle.qa_format.specs.declared.fault.Fault.TheVariants.{NotJson}
use Rattle.json.specs.Json as form
use Rattle.json.specs.Json.{Json}
use Rattle.json.specs.Lex.{Lexeme, token, between, lex, tokens, Place, fresh, after_value, after_comma, begins_colon, punctuate}
use Rattle.json.specs.Token.{Token}
use Rattle.json.specs.Tree.{json_tokens, items_tokens, members_tokens, members_depth}
use Rattle.json.proofs.Printed.Trees.{value-json_tokens}
use Rattle.serde_json.specs.Data.{Data, object, Members, no_members}
use Rattle.serde_json.specs.Read.{of_json, of_members, read}
use Rattle.qa_format.specs.format.Reading.{json_of, is_blank}
use Rattle.qa_scan.specs.Lexes.{lexemes, items_lexemes, members_lexemes, deepest}

-- ---- the tokens of a value's lexemes

-- where a value may begin
abbrev begin : Bool → Place
begin false = fresh
begin true = after_comma

-- what stands before an item or a member
abbrev before : Bool → Place
before false = fresh
before true = after_value

no_colon : (js : form.Items) (ls : List Lexeme) → begins_colon (items_lexemes true js ++ ls) ≡ false
no_colon form.no_items ls = refl
no_colon (form.item j js) ls = refl

none_after : (ms : form.Members) (ls : List Lexeme) → begins_colon (members_lexemes true ms ++ ls) ≡ false
none_after form.no_members ls = refl
none_after (form.member k j ms) ls = refl

mutual
  unfolding punctuate

  value_tokens : (j : Json) (c : Bool) (ls : List Lexeme) → begins_colon ls ≡ false → punctuate (begin c) (lexemes j ++ ls) ≡ json_tokens j ++ punctuate after_value ls
  value_tokens form.null false ls h = refl
  value_tokens form.null true ls h = refl
  value_tokens (form.boolean b) false ls h = refl
  value_tokens (form.boolean b) true ls h = refl
  value_tokens (form.number s) false ls h = refl
  value_tokens (form.number s) true ls h = refl
  value_tokens (form.string s) false ls h = rw h refl
  value_tokens (form.string s) true ls h = rw h refl
  value_tokens (form.array js) false ls h = ap (λ ts. Token.begin_array ∷ ts) (items_are js false ls h)
  value_tokens (form.array js) true ls h = ap (λ ts. Token.begin_array ∷ ts) (items_are js false ls h)
  value_tokens (form.object ms) false ls h = ap (λ ts. Token.begin_object ∷ ts) (members_are ms false ls h)
  value_tokens (form.object ms) true ls h = ap (λ ts. Token.begin_object ∷ ts) (members_are ms false ls h)

  items_are : (js : form.Items) (later : Bool) (ls : List Lexeme) → begins_colon ls ≡ false → punctuate (before later) (items_lexemes later js ++ ls) ≡ items_tokens js ++ punctuate after_value ls
  items_are form.no_items false ls h = refl
  items_are form.no_items true ls h = refl
  items_are (form.item j js) false ls h =
      ap (punctuate fresh) (append_assoc (lexemes j) (items_lexemes true js) ls) ∙ value_tokens j false (items_lexemes true js ++ ls) (no_colon js ls)
      ∙ ap (λ ts. json_tokens j ++ ts) (items_are js true ls h) ∙ sym (append_assoc (json_tokens j) (items_tokens js) _)
  items_are (form.item j js) true ls h =
      ap (punctuate after_comma) (append_assoc (lexemes j) (items_lexemes true js) ls) ∙ value_tokens j true (items_lexemes true js ++ ls) (no_colon js ls)
      ∙ ap (λ ts. json_tokens j ++ ts) (items_are js true ls h) ∙ sym (append_assoc (json_tokens j) (items_tokens js) _)

  members_are : (ms : form.Members) (later : Bool) (ls : List Lexeme) → begins_colon ls ≡ false → punctuate (before later) (members_lexemes later ms ++ ls) ≡ members_tokens ms ++ punctuate after_value ls
  members_are form.no_members false ls h = refl
  members_are form.no_members true ls h = refl
  members_are (form.member k j ms) false ls h =
      ap (λ ts. Token.key k ∷ ts)
      (ap (punctuate fresh) (append_assoc (lexemes j) (members_lexemes true ms) ls) ∙ value_tokens j false (members_lexemes true ms ++ ls) (none_after ms ls)
      ∙ ap (λ ts. json_tokens j ++ ts) (members_are ms true ls h) ∙ sym (append_assoc (json_tokens j) (members_tokens ms) _))
  members_are (form.member k j ms) true ls h =
      ap (λ ts. Token.key k ∷ ts)
      (ap (punctuate fresh) (append_assoc (lexemes j) (members_lexemes true ms) ls) ∙ value_tokens j false (members_lexemes true ms ++ ls) (none_after ms ls)
      ∙ ap (λ ts. json_tokens j ++ ts) (members_are ms true ls h) ∙ sym (append_assoc (json_tokens j) (members_tokens ms) _))

-- ---- the object

object_tokens : (bytes : List ℕ) (ms : form.Members) → lex between bytes ≡ token Token.begin_object ∷ members_lexemes false ms → tokens bytes ≡ json_tokens (form.object ms)
unfolding punctuate
object_tokens bytes ms lexed =
    ap (punctuate fresh) (lexed ∙ sym (append-nil (token Token.begin_object ∷ members_lexemes false ms))) ∙ value_tokens (form.object ms) false [] refl ∙ append-nil (json_tokens (form.object ms))

reads : (bytes : List ℕ) (ms : form.Members) (all : Members) → members_depth ms ≤ deepest → of_members ms no_members ≡ Some all
    → lex between bytes ≡ token Token.begin_object ∷ members_lexemes false ms → read bytes ≡ Some (object all)
reads bytes ms all shallow put lexed =
    let j = form.object ms in
    ap (λ p. option_and_then of_json (option_and_then (λ q. form.if_last q.0 q.1) p))
    (ap (form.value 127) (object_tokens bytes ms lexed ∙ sym (append-nil (json_tokens j))) ∙ value-json_tokens j 127 [] (omega arith))
    ∙ ap (option_map object) put

-- the bytes are the object of these members
pub json_of-lexemes : (bytes : List ℕ) (ms : form.Members) (all : Members) → members_depth ms ≤ deepest → of_members ms no_members ≡ Some all
    → lex between bytes ≡ token Token.begin_object ∷ members_lexemes false ms → IsUtf8 bytes → json_of bytes ≡ Ok (object all)
unfolding json_of
json_of-lexemes bytes ms all shallow put lexed utf8 = rw (is_utf8-from_IsUtf8 bytes utf8, reads bytes ms all shallow put lexed) refl

-- ---- a blank line

blank_byte : (x : ℕ) (rest : List ℕ) → is_blank x ≡ true → lex between (x ∷ rest) ≡ lex between rest
unfolding lex
blank_byte x rest h = elim (or_cases _ _ h) [
  | inl g ↦ elim (or_cases _ _ g) [
    | inl e ↦ rw (eqb-true x 32 e) refl
    | inr e ↦ rw (eqb-true x 9 e) refl
  ]
  | inr e ↦ rw (eqb-true x 13 e) refl
]

blank_lexes : (bytes : List ℕ) → list_all is_blank bytes ≡ true → lex between bytes ≡ []
unfolding lex
blank_lexes [] h = refl
blank_lexes (x ∷ rest) h = let parts = and_parts _ _ h in blank_byte x rest parts.0 ∙ blank_lexes rest parts.1

no_value : (b : Bool) (o : Option Data) (d : Data) → o ≡ None → cond b (ok_or o NotJson) (Err NotJson) ≡ Ok d → ⊥
no_value true o d none is = let never : ok_or None NotJson ≡ Ok d = rw none at is in cc
no_value false o d none is = cc

blank_reads : (bytes : List ℕ) → list_all is_blank bytes ≡ true → read bytes ≡ None
unfolding punctuate form.value
blank_reads bytes h = ap (λ ls. option_and_then of_json (option_and_then (λ p. form.if_last p.0 p.1) (form.value 127 (punctuate fresh ls)))) (blank_lexes bytes h)

-- a line that has a value is not blank
pub not_blank : (bytes : List ℕ) (d : Data) → json_of bytes ≡ Ok d → list_all is_blank bytes ≡ false
unfolding json_of
not_blank bytes d is = elim (cases_Bool (list_all is_blank bytes)) [
  | inl blank ↦ absurd (no_value (is_utf8 bytes) (read bytes) d (blank_reads bytes blank) is)
  | inr solid ↦ solid
]
