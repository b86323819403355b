-- What the lexer of JSON makes of white space, operators, strings, integers and literals.
use Rattle.std.proofs.Common.{◌≡◌, ◌∙◌, inl, inr, ℕ, ◌+◌, ◌<◌, ◌≤◌, ◌^◌, List, [], ◌∷◌, ◌++◌, Bool, true, false, cond, length, drop, get_or, Some, IsUtf8, decimal, refl, sym, ap, ap₂, subst, arith, append_assoc, append-nil, lt-ltb}
use Rattle.std.specs.List.{list_all}
use Rattle.std.proofs.lemmas.Bool.{and_parts, or_cases, eqb-true, leb-true, ne_eqb, le-ltb, not-true, eqb-false}
use Rattle.std.proofs.lemmas.Fmt.{IsAscii-decimal}
use Rattle.std.proofs.lemmas.List.{drop_more, length-append}
use Rattle.std.proofs.lemmas.Str.{IsUtf8-append, IsUtf8-nil, IsUtf8-from_ascii}
use Rattle.json.specs.Text.{content, plain, prepend}
use Rattle.json.specs.Token as tokens
use Rattle.json.specs.Word.{is_operator, is_space, ends_word, word}
use Rattle.json.specs.Lex.{Lexeme, token, comma, colon, string_token, Mode, between, in_string, operator, space, other, lex, lex_byte}
use Rattle.json.proofs.Printed.Decimals.{IsNumber-decimal}
use Rattle.json.proofs.Printed.Numbers.{lex-number, in_word-ended}
use Rattle.serde_json.specs.Written.{compact_text}
use Rattle.qa_format.specs.format.Simple.{is_ascii}
use Rattle.qa_format.specs.format.Written.{boolean}
use Rattle.qa_format.proofs.format.Compact.{IsUtf8-is_ascii}
use Rattle.qa_scan.specs.Lexes.{EndsIn, Lexes, is_plain, IsQuoted}

-- ---- one after another

-- bytes that end in others end in what those end in
pub ends_then : {bytes middle rest : List ℕ} → EndsIn bytes middle → EndsIn middle rest → EndsIn bytes rest
ends_then {bytes} {middle} {rest} first second = (first.0 ++ second.0, first.1 ∙ ap (λ l. first.0 ++ l) second.1 ∙ sym (append_assoc first.0 second.0 rest))

pub lexes_nothing : (bytes : List ℕ) → Lexes bytes bytes []
lexes_nothing bytes = record { ends = ([], refl); lexes = refl; utf8 = λ u. u }

pub then : {bytes middle rest : List ℕ} {ls ms : List Lexeme} → Lexes bytes middle ls → Lexes middle rest ms → Lexes bytes rest (ls ++ ms)
then {bytes} {middle} {rest} {ls} {ms} first second = record {
  ends = ends_then first.ends second.ends;
  lexes = first.lexes ∙ ap (λ l. ls ++ l) second.lexes ∙ sym (append_assoc ls ms (lex between rest));
  utf8 = λ u. first.utf8 (second.utf8 u);
}

-- ASCII before the rest, whose lexemes are known whatever the rest is
pub ascii_word : (w : List ℕ) (ls : List Lexeme) (bytes rest : List ℕ) → is_ascii w ≡ true → lex between (w ++ rest) ≡ ls ++ lex between rest → bytes ≡ w ++ rest → Lexes bytes rest ls
ascii_word w ls bytes rest ascii lexed is = record {
  ends = (w, is);
  lexes = ap (lex between) is ∙ lexed;
  utf8 = λ u. subst IsUtf8 (sym is) (IsUtf8-append w rest (IsUtf8-is_ascii w ascii) u);
}

-- a lexeme takes a byte at least: without one the lexemes of the rest would be more than themselves
shorter_by : (front bytes rest : List ℕ) (l : Lexeme) (ls : List Lexeme) → bytes ≡ front ++ rest → lex between bytes ≡ (l ∷ ls) ++ lex between rest → length rest < length bytes
shorter_by [] bytes rest l ls is lexed =
    let same : lex between rest ≡ l ∷ (ls ++ lex between rest) = sym (ap (lex between) is) ∙ lexed in
    omega (arith, ap length same, length-append ls (lex between rest))
shorter_by (x ∷ front) bytes rest l ls is lexed = omega (arith, ap length is, length-append front rest)

pub shorter : (bytes rest : List ℕ) (l : Lexeme) (ls : List Lexeme) → Lexes bytes rest (l ∷ ls) → length rest < length bytes
shorter bytes rest l ls one = shorter_by one.ends.0 bytes rest l ls one.ends.1 one.lexes

-- ---- operators

pub lexes_colon : (bytes rest : List ℕ) → bytes ≡ 58 ∷ rest → Lexes bytes rest (colon ∷ [])
unfolding lex
lexes_colon bytes rest is = ascii_word (58 ∷ []) _ bytes rest refl refl is

pub lexes_comma : (bytes rest : List ℕ) → bytes ≡ 44 ∷ rest → Lexes bytes rest (comma ∷ [])
unfolding lex
lexes_comma bytes rest is = ascii_word (44 ∷ []) _ bytes rest refl refl is

pub lexes_begin_object : (bytes rest : List ℕ) → bytes ≡ 123 ∷ rest → Lexes bytes rest (token tokens.begin_object ∷ [])
unfolding lex
lexes_begin_object bytes rest is = ascii_word (123 ∷ []) _ bytes rest refl refl is

pub lexes_end_object : (bytes rest : List ℕ) → bytes ≡ 125 ∷ rest → Lexes bytes rest (token tokens.end_object ∷ [])
unfolding lex
lexes_end_object bytes rest is = ascii_word (125 ∷ []) _ bytes rest refl refl is

pub lexes_begin_array : (bytes rest : List ℕ) → bytes ≡ 91 ∷ rest → Lexes bytes rest (token tokens.begin_array ∷ [])
unfolding lex
lexes_begin_array bytes rest is = ascii_word (91 ∷ []) _ bytes rest refl refl is

pub lexes_end_array : (bytes rest : List ℕ) → bytes ≡ 93 ∷ rest → Lexes bytes rest (token tokens.end_array ∷ [])
unfolding lex
lexes_end_array bytes rest is = ascii_word (93 ∷ []) _ bytes rest refl refl is

-- ---- white space

space_byte : (x : ℕ) (rest : List ℕ) → is_space x ≡ true → Lexes (x ∷ rest) rest []
unfolding lex
space_byte x rest h = elim (or_cases _ _ h) [
  | inl g ↦ elim (or_cases _ _ g) [
    | inl f ↦ elim (or_cases _ _ f) [
      | inl e ↦ subst (λ y. Lexes (y ∷ rest) rest []) (sym (eqb-true x 32 e)) (ascii_word (32 ∷ []) [] _ rest refl refl refl)
      | inr e ↦ subst (λ y. Lexes (y ∷ rest) rest []) (sym (eqb-true x 9 e)) (ascii_word (9 ∷ []) [] _ rest refl refl refl)
    ]
    | inr e ↦ subst (λ y. Lexes (y ∷ rest) rest []) (sym (eqb-true x 10 e)) (ascii_word (10 ∷ []) [] _ rest refl refl refl)
  ]
  | inr e ↦ subst (λ y. Lexes (y ∷ rest) rest []) (sym (eqb-true x 13 e)) (ascii_word (13 ∷ []) [] _ rest refl refl refl)
]

pub one_space : (bytes rest : List ℕ) → bytes ≡ 32 ∷ rest → Lexes bytes rest []
unfolding lex
one_space bytes rest is = ascii_word (32 ∷ []) [] bytes rest refl refl is

pub one_return : (bytes rest : List ℕ) → bytes ≡ 13 ∷ rest → Lexes bytes rest []
unfolding lex
one_return bytes rest is = ascii_word (13 ∷ []) [] bytes rest refl refl is

-- one byte more of white space
pub space_more : (bytes : List ℕ) (i : ℕ) → Lexes bytes (drop i bytes) [] → i < length bytes → is_space (get_or bytes i 0) ≡ true → Lexes bytes (drop (i + 1) bytes) []
space_more bytes i before within blank =
    then before (subst (λ r. Lexes r (drop (i + 1) bytes) []) (sym (drop_more bytes i 0 within)) (space_byte (get_or bytes i 0) (drop (i + 1) bytes) blank))

-- ---- strings

-- what is known of a plain byte
pub record Plain (x : ℕ) : Type 0 where
  pub high : 32 ≤ x
  pub low : x ≤ 126
  pub no_quote : x ≡ 34 → ⊥
  pub no_backslash : x ≡ 92 → ⊥

pub plain_byte : (x : ℕ) → is_plain x ≡ true → Plain x
plain_byte x h =
    let outer = and_parts _ _ h in
    let inner = and_parts _ _ outer.0 in
    let bounds = and_parts _ _ inner.0 in
    record {
      high = leb-true 32 x bounds.0;
      low = leb-true x 126 bounds.1;
      no_quote = eqb-false x 34 (not-true _ inner.1);
      no_backslash = eqb-false x 92 (not-true _ outer.1);
    }

pub inside : (o s : Bool) (x : ℕ) (r : List ℕ) (k : Mode → List Lexeme) → lex_byte in_string (cond o operator (cond s space other)) x r k ≡ k in_string
inside true s x r k = refl
inside false true x r k = refl
inside false false x r k = refl

-- plain bytes are the content of a string, up to its quote
content_is : (s r : List ℕ) → list_all is_plain s ≡ true → content plain (s ++ 34 ∷ r) ≡ Some s
unfolding content
content_is [] r h = refl
content_is (x ∷ s) r h =
    let parts = and_parts _ _ h in
    let p = plain_byte x parts.0 in
    rw (ne_eqb x 34 p.no_quote, ne_eqb x 92 p.no_backslash, le-ltb x 32 p.high) (ap (prepend (x ∷ [])) (content_is s r parts.1))

-- and the lexer passes over them
passed : (s r : List ℕ) → list_all is_plain s ≡ true → lex in_string (s ++ 34 ∷ r) ≡ lex between r
unfolding lex
passed [] r h = refl
passed (x ∷ s) r h =
    let parts = and_parts _ _ h in
    let p = plain_byte x parts.0 in
    rw (ne_eqb x 34 p.no_quote, ne_eqb x 92 p.no_backslash) (inside (is_operator x) (is_space x) x (s ++ 34 ∷ r) (λ m. lex m (s ++ 34 ∷ r)) ∙ passed s r parts.1)

plain_utf8 : (s : List ℕ) → list_all is_plain s ≡ true → IsUtf8 s
plain_utf8 [] h = IsUtf8-nil
plain_utf8 (x ∷ s) h =
    let parts = and_parts _ _ h in
    let p = plain_byte x parts.0 in
    IsUtf8-append (x ∷ []) s (IsUtf8-is_ascii (x ∷ []) (rw (let small : x < 128 = omega (arith, p.low) in lt-ltb x 128 small) refl)) (plain_utf8 s parts.1)

-- a text of plain bytes in quotes is a string
pub lexes_quoted : (text bytes rest : List ℕ) → list_all is_plain text ≡ true → IsQuoted text bytes rest → Lexes bytes rest (token (tokens.string text) ∷ [])
unfolding lex
lexes_quoted text bytes rest all_plain is = record {
  ends = (34 ∷ (text ++ 34 ∷ []), is ∙ ap (λ l. 34 ∷ l) (sym (append_assoc text (34 ∷ []) rest)));
  lexes = ap (lex between) is ∙ ap₂ (λ o l. token (string_token o) ∷ l) (content_is text rest all_plain) (passed text rest all_plain);
  utf8 = λ u. subst IsUtf8 (sym is) (IsUtf8-append (34 ∷ []) _ (IsUtf8-is_ascii _ refl) (IsUtf8-append text _ (plain_utf8 text all_plain) (IsUtf8-append (34 ∷ []) rest (IsUtf8-is_ascii _ refl) u)));
}

-- ---- integers and literals

pub lexes_integer : (n : ℕ) (bytes rest : List ℕ) → n < 2 ^ 64 → ends_word rest ≡ true → bytes ≡ decimal n ++ rest → Lexes bytes rest (token (tokens.number (decimal n)) ∷ [])
lexes_integer n bytes rest small ended is = record {
  ends = (decimal n, is);
  lexes = ap (lex between) is ∙ lex-number (decimal n) rest (IsNumber-decimal n small) ended;
  utf8 = λ u. subst IsUtf8 (sym is) (IsUtf8-append (decimal n) rest (IsUtf8-from_ascii (decimal n) (IsAscii-decimal n small)) u);
}

literal_lexed : (b : Bool) (rest : List ℕ) → ends_word rest ≡ true → lex between (compact_text (boolean b) ++ rest) ≡ token (tokens.boolean b) ∷ lex between rest
unfolding lex word
literal_lexed true rest ended = ap₂ (λ e l. token (cond e (tokens.boolean true) tokens.bad) ∷ l) ended (in_word-ended rest ended)
literal_lexed false rest ended = ap₂ (λ e l. token (cond e (tokens.boolean false) tokens.bad) ∷ l) ended (in_word-ended rest ended)

literal_ascii : (b : Bool) → is_ascii (compact_text (boolean b)) ≡ true
literal_ascii true = refl
literal_ascii false = refl

pub lexes_boolean : (b : Bool) (bytes rest : List ℕ) → ends_word rest ≡ true → bytes ≡ compact_text (boolean b) ++ rest → Lexes bytes rest (token (tokens.boolean b) ∷ [])
lexes_boolean b bytes rest ended is = ascii_word (compact_text (boolean b)) _ bytes rest (literal_ascii b) (literal_lexed b rest ended) is

pub lexes_null : (bytes rest : List ℕ) → ends_word rest ≡ true → bytes ≡ 110 ∷ 117 ∷ 108 ∷ 108 ∷ rest → Lexes bytes rest (token tokens.null ∷ [])
unfolding lex word
lexes_null bytes rest ended is =
    ascii_word (110 ∷ 117 ∷ 108 ∷ 108 ∷ []) _ bytes rest refl (ap₂ (λ e l. token (cond e tokens.null tokens.bad) ∷ l) ended (in_word-ended rest ended)) is

-- ---- with white space round it

pub spaced : {bytes a b rest : List ℕ} {ls : List Lexeme} → Lexes bytes a [] → Lexes a b ls → Lexes b rest [] → Lexes bytes rest ls
spaced {bytes} {a} {b} {rest} {ls} front one end = let P : List Lexeme → Type 0 = λ l. Lexes bytes rest l in subst P (append-nil ls) (then (then front one) end)
