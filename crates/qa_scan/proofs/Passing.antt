-- What the lexer of JSON makes of what stands in a string.
use Rattle.std.proofs.Common.{◌≡◌, ◌∙◌, ◌⊎◌, inl, inr, ℕ, suc, ◌+◌, ◌-◌, ◌*◌, ◌<◌, ◌≤◌, List, [], ◌∷◌, ◌++◌, Bool, true, false, cond, ◌&&◌, length, take, drop, get_or, Option, Some, None, option_and_then, IsUtf8, refl, sym, ap, ap₂, subst, arith, append_assoc, take-append-drop, lt-ltb}
use Rattle.std.specs.Bool.{⊤}
use Rattle.std.specs.Char.{digit_value, is_digit, encode_utf8}
use Rattle.std.specs.List.{list_all}
use Rattle.std.proofs.lemmas.Bool.{and_parts, or_cases, eqb-true, leb-true, ne_eqb, le-ltb}
use Rattle.std.proofs.lemmas.List.{drop_more, drop-drop}
use Rattle.std.proofs.lemmas.Option.{cond_some}
use Rattle.std.proofs.lemmas.Str.{IsUtf8-append}
use Rattle.json.specs.Text.{content, plain, prepend, code_unit, short_escape, is_high_surrogate, is_low_surrogate, surrogate_pair}
use Rattle.json.specs.Token as tokens
use Rattle.json.specs.Word.{is_operator, is_space}
use Rattle.json.specs.Lex.{token, string_token, between, in_string, lex}
use Rattle.qa_format.specs.format.Simple.{is_ascii}
use Rattle.qa_format.proofs.format.Compact.{IsUtf8-is_ascii}
use Rattle.qa_scan.specs.Lexes.{IsString, is_plain}
use Rattle.qa_scan.specs.Strings.{Passes, IsPart, IsUnitAt, is_high, is_short}
use Rattle.qa_scan.proofs.Lexing.{inside, plain_byte}

-- ---- one after another

prepend_both : (a b : List ℕ) (r : Option (List ℕ)) → prepend a (prepend b r) ≡ prepend (a ++ b) r
prepend_both a b None = refl
prepend_both a b (Some s) = ap Some (sym (append_assoc a b s))

prepend_none : (r : Option (List ℕ)) → r ≡ prepend [] r
prepend_none None = refl
prepend_none (Some s) = refl

pub passes_nothing : (bytes : List ℕ) → Passes bytes bytes
passes_nothing bytes = record { text = []; reads = prepend_none _; lexes = refl; utf8 = λ u. u }

pub passes_then : {a b c : List ℕ} → Passes a b → Passes b c → Passes a c
passes_then {a} {b} {c} first second = record {
  text = first.text ++ second.text;
  reads = first.reads ∙ ap (prepend first.text) second.reads ∙ prepend_both first.text second.text (content plain c);
  lexes = first.lexes ∙ second.lexes;
  utf8 = λ u. first.utf8 (second.utf8 u);
}

pub part_nothing : (bytes : List ℕ) (i : ℕ) → i ≤ length bytes → IsPart bytes i i
part_nothing bytes i within = record { after = omega arith; within = within; passes = passes_nothing (drop i bytes) }

pub part_then : {bytes : List ℕ} {i j k : ℕ} → IsPart bytes i j → IsPart bytes j k → IsPart bytes i k
part_then first second = record {
  after = omega (arith, first.after, second.after);
  within = second.within;
  passes = passes_then first.passes second.passes;
}

-- ---- bytes that stand for themselves

abbrev Stands : ℕ → Type 0
Stands x = (32 ≤ x) × ((x ≡ 34 → ⊥) × (x ≡ 92 → ⊥))

abbrev AllStand : List ℕ → Type 0
AllStand [] = ⊤
AllStand (x ∷ xs) = Stands x × AllStand xs

run_content : (s rest : List ℕ) → AllStand s → content plain (s ++ rest) ≡ prepend s (content plain rest)
unfolding content
run_content [] rest h = prepend_none _
run_content (x ∷ s) rest h =
    rw (ne_eqb x 34 h.0.1.0, ne_eqb x 92 h.0.1.1, le-ltb x 32 h.0.0) (ap (prepend (x ∷ [])) (run_content s rest h.1) ∙ prepend_both (x ∷ []) s (content plain rest))

run_lexes : (s rest : List ℕ) → AllStand s → lex in_string (s ++ rest) ≡ lex in_string rest
unfolding lex
run_lexes [] rest h = refl
run_lexes (x ∷ s) rest h =
    rw (ne_eqb x 34 h.0.1.0, ne_eqb x 92 h.0.1.1) (inside (is_operator x) (is_space x) x (s ++ rest) (λ m. lex m (s ++ rest)) ∙ run_lexes s rest h.1)

run_passes : (s rest : List ℕ) → AllStand s → IsUtf8 s → Passes (s ++ rest) rest
run_passes s rest h utf8 = record {
  text = s;
  reads = run_content s rest h;
  lexes = run_lexes s rest h;
  utf8 = λ u. IsUtf8-append s rest utf8 u;
}

ascii_byte : (x : ℕ) → x < 128 → IsUtf8 (x ∷ [])
ascii_byte x small = IsUtf8-is_ascii (x ∷ []) (rw (lt-ltb x 128 small) refl)

-- one plain byte more
pub part_plain : (bytes : List ℕ) (i j : ℕ) → IsPart bytes i j → j < length bytes → is_plain (get_or bytes j 0) ≡ true → IsPart bytes i (j + 1)
part_plain bytes i j before within is =
    let x : ℕ = get_or bytes j 0 in
    let p = plain_byte x is in
    let one : Passes (x ∷ drop (j + 1) bytes) (drop (j + 1) bytes) = run_passes (x ∷ []) (drop (j + 1) bytes) ((p.high, (p.no_quote, p.no_backslash)), tt) (ascii_byte x (omega (arith, p.low))) in
    record {
      after = omega (arith, before.after);
      within = omega arith;
      passes = passes_then before.passes (subst (λ r. Passes r (drop (j + 1) bytes)) (sym (drop_more bytes j 0 within)) one);
    }

high_stand : (s : List ℕ) → list_all is_high s ≡ true → AllStand s
high_stand [] h = tt
high_stand (x ∷ s) h =
    let parts = and_parts _ _ h in
    let above : 127 ≤ x = leb-true 127 x parts.0 in
    ((omega arith, (λ e. omega arith, λ e. omega arith)), high_stand s parts.1)

-- some bytes above printable ASCII, which are UTF-8
pub part_high : (bytes : List ℕ) (i n : ℕ) → i + n ≤ length bytes → list_all is_high (take n (drop i bytes)) ≡ true → IsUtf8 (take n (drop i bytes)) → IsPart bytes i (i + n)
part_high bytes i n within high utf8 =
    let s = take n (drop i bytes) in
    let behind : drop n (drop i bytes) ≡ drop (i + n) bytes = drop-drop n i bytes in
    let whole : s ++ drop (i + n) bytes ≡ drop i bytes = ap (λ r. s ++ r) (sym behind) ∙ take-append-drop n (drop i bytes) in
    record {
      after = omega arith;
      within = within;
      passes = subst (λ r. Passes r (drop (i + n) bytes)) whole (run_passes s (drop (i + n) bytes) (high_stand s high) utf8);
    }

-- ---- escapes

-- a backslash, one byte more and the rest
one_escaped : (x c : ℕ) (rest : List ℕ) → is_ascii (x ∷ []) ≡ true → content plain (92 ∷ x ∷ rest) ≡ prepend (c ∷ []) (content plain rest) → Passes (92 ∷ x ∷ rest) rest
unfolding lex
one_escaped x c rest ascii reads = record {
  text = c ∷ [];
  reads = reads;
  lexes = refl;
  utf8 = λ u. IsUtf8-append (92 ∷ []) (x ∷ rest) (IsUtf8-is_ascii _ refl) (IsUtf8-append (x ∷ []) rest (IsUtf8-is_ascii _ ascii) u);
}

short_passes : (x : ℕ) (rest : List ℕ) → is_short x ≡ true → Passes (92 ∷ x ∷ rest) rest
unfolding content short_escape
short_passes x rest h0 = elim (or_cases _ _ h0) [
  | inr e ↦ at 116 9 (eqb-true x 116 e) refl refl
  | inl h1 ↦ elim (or_cases _ _ h1) [
    | inr e ↦ at 114 13 (eqb-true x 114 e) refl refl
    | inl h2 ↦ elim (or_cases _ _ h2) [
      | inr e ↦ at 110 10 (eqb-true x 110 e) refl refl
      | inl h3 ↦ elim (or_cases _ _ h3) [
        | inr e ↦ at 102 12 (eqb-true x 102 e) refl refl
        | inl h4 ↦ elim (or_cases _ _ h4) [
          | inr e ↦ at 98 8 (eqb-true x 98 e) refl refl
          | inl h5 ↦ elim (or_cases _ _ h5) [
            | inr e ↦ at 47 47 (eqb-true x 47 e) refl refl
            | inl h6 ↦ elim (or_cases _ _ h6) [
              | inr e ↦ at 92 92 (eqb-true x 92 e) refl refl
              | inl e ↦ at 34 34 (eqb-true x 34 e) refl refl
            ]
          ]
        ]
      ]
    ]
  ]
]
  where
    at : (y c : ℕ) → x ≡ y → is_ascii (y ∷ []) ≡ true → content plain (92 ∷ y ∷ rest) ≡ prepend (c ∷ []) (content plain rest) → Passes (92 ∷ x ∷ rest) rest
    at y c is ascii reads = subst (λ z. Passes (92 ∷ z ∷ rest) rest) (sym is) (one_escaped y c rest ascii reads)

drop_two : (d : List ℕ) (i : ℕ) → i + 2 ≤ length d → drop i d ≡ get_or d i 0 ∷ get_or d (i + 1) 0 ∷ drop (i + 2) d
drop_two d i h =
    let two : i + 1 + 1 ≡ i + 2 = omega arith in
    drop_more d i 0 (omega arith) ∙ ap (λ l. get_or d i 0 ∷ l) (drop_more d (i + 1) 0 (omega arith) ∙ ap (λ n. get_or d (i + 1) 0 ∷ drop n d) two)

drop_four : (d : List ℕ) (i : ℕ) → i + 4 ≤ length d → drop i d ≡ get_or d i 0 ∷ get_or d (i + 1) 0 ∷ get_or d (i + 2) 0 ∷ get_or d (i + 3) 0 ∷ drop (i + 4) d
drop_four d i h =
    let three : i + 2 + 1 ≡ i + 3 = omega arith in
    let four : i + 2 + 2 ≡ i + 4 = omega arith in
    drop_two d i (omega arith) ∙ ap (λ l. get_or d i 0 ∷ get_or d (i + 1) 0 ∷ l) (drop_two d (i + 2) (omega arith) ∙ (λ j. get_or d (i + 2) 0 ∷ get_or d (three j) 0 ∷ drop (four j) d))

pub part_short : (bytes : List ℕ) (i : ℕ) → i + 2 ≤ length bytes → get_or bytes i 0 ≡ 92 → is_short (get_or bytes (i + 1) 0) ≡ true → IsPart bytes i (i + 2)
part_short bytes i within backslash short =
    let x : ℕ = get_or bytes (i + 1) 0 in
    let whole : drop i bytes ≡ 92 ∷ x ∷ drop (i + 2) bytes = drop_two bytes i within ∙ ap (λ b. b ∷ x ∷ drop (i + 2) bytes) backslash in
    record {
      after = omega arith;
      within = within;
      passes = subst (λ r. Passes r (drop (i + 2) bytes)) (sym whole) (short_passes x (drop (i + 2) bytes) short);
    }

-- ---- code units

-- what is known of a hexadecimal digit
record Hexadecimal (x : ℕ) : Type 0 where
  ascii : x < 128
  stands : Stands x

hexadecimal_byte : (x : ℕ) → is_digit x 16 ≡ true → Hexadecimal x
hexadecimal_byte x h =
    let low : 48 ≤ x = grind (arith, h) in
    let high : x < 103 = grind (arith, h) in
    let no_backslash : x ≡ 92 → ⊥ = grind (arith, h) in
    record { ascii = omega (arith, high); stands = (omega (arith, low), (λ e. omega (arith, low), no_backslash)) }

-- the unit that four digits of these values spell
pub unit_spelled : (a b c d w x y z : ℕ) → (digit_value a ≡ w) × (w < 16) → (digit_value b ≡ x) × (x < 16) → (digit_value c ≡ y) × (y < 16) → (digit_value d ≡ z) × (z < 16)
    → code_unit a b c d ≡ Some (w * 4096 + x * 256 + y * 16 + z)
unfolding code_unit
unit_spelled a b c d w x y z first second third fourth =
    rw (first.0, second.0, third.0, fourth.0, lt-ltb w 16 first.1, lt-ltb x 16 second.1, lt-ltb y 16 third.1, lt-ltb z 16 fourth.1) refl

record Digits (a b c d : ℕ) : Type 0 where
  first : Hexadecimal a
  second : Hexadecimal b
  third : Hexadecimal c
  fourth : Hexadecimal d

unit_digits : (a b c d u : ℕ) → code_unit a b c d ≡ Some u → Digits a b c d
unfolding code_unit
unit_digits a b c d u is =
    let all = and_parts _ _ (cond_some _ _ _ is).0 in
    let three = and_parts _ _ all.0 in
    let two = and_parts _ _ three.0 in
    record { first = hexadecimal_byte a two.0; second = hexadecimal_byte b two.1; third = hexadecimal_byte c three.1; fourth = hexadecimal_byte d all.1 }

abbrev escaped : ℕ → ℕ → ℕ → ℕ → List ℕ → List ℕ
escaped a b c d rest = 92 ∷ 117 ∷ a ∷ b ∷ c ∷ d ∷ rest

unit_lexes : (a b c d : ℕ) (rest : List ℕ) → Digits a b c d → lex in_string (escaped a b c d rest) ≡ lex in_string rest
unfolding lex
unit_lexes a b c d rest h = run_lexes (a ∷ b ∷ c ∷ d ∷ []) rest (h.first.stands, (h.second.stands, (h.third.stands, (h.fourth.stands, tt))))

unit_utf8 : (a b c d : ℕ) (rest : List ℕ) → Digits a b c d → IsUtf8 rest → IsUtf8 (escaped a b c d rest)
unit_utf8 a b c d rest h u =
    IsUtf8-append (92 ∷ 117 ∷ []) _ (IsUtf8-is_ascii _ refl)
    (IsUtf8-append (a ∷ []) _ (ascii_byte a h.first.ascii) (IsUtf8-append (b ∷ []) _ (ascii_byte b h.second.ascii) (IsUtf8-append (c ∷ []) _ (ascii_byte c h.third.ascii) (IsUtf8-append (d ∷ []) rest (ascii_byte d h.fourth.ascii) u))))

-- a unit that is no surrogate
single_passes : (a b c d u : ℕ) (rest : List ℕ) → code_unit a b c d ≡ Some u → is_high_surrogate u ≡ false → is_low_surrogate u ≡ false → Passes (escaped a b c d rest) rest
unfolding content
single_passes a b c d u rest is no_high no_low =
    let h = unit_digits a b c d u is in record {
      text = encode_utf8 u;
      reads = rw (is, no_high, no_low) refl;
      lexes = unit_lexes a b c d rest h;
      utf8 = unit_utf8 a b c d rest h;
    }

-- a pair of surrogates
pair_passes : (a b c d u e f g h l : ℕ) (rest : List ℕ) → code_unit a b c d ≡ Some u → is_high_surrogate u ≡ true → code_unit e f g h ≡ Some l → is_low_surrogate l ≡ true
    → Passes (escaped a b c d (escaped e f g h rest)) rest
unfolding content
pair_passes a b c d u e f g h l rest is_u high is_l low =
    let first = unit_digits a b c d u is_u in
    let second = unit_digits e f g h l is_l in record {
      text = encode_utf8 (surrogate_pair u l);
      reads = rw (is_u, high, is_l, low) refl;
      lexes = unit_lexes a b c d (escaped e f g h rest) first ∙ unit_lexes e f g h rest second;
      utf8 = λ w. unit_utf8 a b c d (escaped e f g h rest) first (unit_utf8 e f g h rest second w);
    }

-- the escape at a place
abbrev escaped_at : List ℕ → ℕ → List ℕ → List ℕ
escaped_at bytes i rest = escaped (get_or bytes (i + 2) 0) (get_or bytes (i + 2 + 1) 0) (get_or bytes (i + 2 + 2) 0) (get_or bytes (i + 2 + 3) 0) rest

drop_escaped : (bytes : List ℕ) (i unit : ℕ) → IsUnitAt bytes i unit → drop i bytes ≡ escaped_at bytes i (drop (i + 6) bytes)
drop_escaped bytes i unit h =
    let two : i + 2 + 4 ≡ i + 6 = omega arith in
    drop_two bytes i (omega (arith, h.within)) ∙ ap₂ (λ x y. x ∷ y ∷ drop (i + 2) bytes) h.backslash h.letter
    ∙ ap (λ l. 92 ∷ 117 ∷ l) (drop_four bytes (i + 2) (omega (arith, h.within)) ∙ ap (λ n. get_or bytes (i + 2) 0 ∷ get_or bytes (i + 2 + 1) 0 ∷ get_or bytes (i + 2 + 2) 0 ∷ get_or bytes (i + 2 + 3) 0 ∷ drop n bytes) two)

pub part_single : (bytes : List ℕ) (i unit : ℕ) → IsUnitAt bytes i unit → (unit < 55296) ⊎ (57344 ≤ unit) → IsPart bytes i (i + 6)
part_single bytes i unit h outside = record {
  after = omega arith;
  within = h.within;
  passes = subst (λ r. Passes r (drop (i + 6) bytes)) (sym (drop_escaped bytes i unit h)) (single_passes _ _ _ _ unit (drop (i + 6) bytes) h.is (no_high outside) (no_low outside));
}
  where
    no_high : (unit < 55296) ⊎ (57344 ≤ unit) → is_high_surrogate unit ≡ false
    no_high (inl e) = grind (arith, e)
    no_high (inr e) = grind (arith, e)

    no_low : (unit < 55296) ⊎ (57344 ≤ unit) → is_low_surrogate unit ≡ false
    no_low (inl e) = grind (arith, e)
    no_low (inr e) = grind (arith, e)

pub part_pair : (bytes : List ℕ) (i unit second : ℕ) → IsUnitAt bytes i unit → 55296 ≤ unit → unit < 56320 → IsUnitAt bytes (i + 6) second → 56320 ≤ second → second < 57344 → IsPart bytes i (i + 12)
part_pair bytes i unit second h low high k low2 high2 =
    let rest = drop (i + 12) bytes in
    let twelve : i + 6 + 6 ≡ i + 12 = omega arith in
    let is_high : is_high_surrogate unit ≡ true = grind (arith, low, high) in
    let is_low : is_low_surrogate second ≡ true = grind (arith, low2, high2) in
    let whole : drop i bytes ≡ escaped_at bytes i (escaped_at bytes (i + 6) rest) =
    drop_escaped bytes i unit h ∙ ap (escaped_at bytes i) (drop_escaped bytes (i + 6) second k ∙ ap (λ n. escaped_at bytes (i + 6) (drop n bytes)) twelve) in
    record {
      after = omega arith;
      within = omega (arith, k.within);
      passes = subst (λ r. Passes r rest) (sym whole) (pair_passes _ _ _ _ unit _ _ _ _ second rest h.is is_high k.is is_low);
    }

-- ---- the whole string

quoted : (bytes inside behind rest text : List ℕ) → bytes ≡ 34 ∷ inside → content plain inside ≡ prepend text (content plain behind) → lex in_string inside ≡ lex in_string behind → behind ≡ 34 ∷ rest
    → lex between bytes ≡ token (tokens.string text) ∷ lex between rest
unfolding lex content
quoted bytes inside behind rest text opens reads lexes closes =
    let ends : content plain inside ≡ Some text = reads ∙ ap (λ l. prepend text (content plain l)) closes ∙ ap Some (Rattle.std.proofs.Common.append-nil text) in
    ap (lex between) opens ∙ ap₂ (λ o l. token (string_token o) ∷ l) ends (lexes ∙ ap (lex in_string) closes)

pub is_string : (bytes inside rest : List ℕ) (i : ℕ) → bytes ≡ 34 ∷ inside → IsPart inside 0 i → drop i inside ≡ 34 ∷ rest → IsString bytes rest
is_string bytes inside rest i opens part closes =
    let passed = part.passes in record {
      text = passed.text;
      lexed = record {
        ends = (34 ∷ (take i inside ++ 34 ∷ []), opens ∙ ap (λ l. 34 ∷ l) (sym (take-append-drop i inside) ∙ ap (λ l. take i inside ++ l) closes ∙ sym (append_assoc (take i inside) (34 ∷ []) rest)));
        lexes = quoted bytes inside (drop i inside) rest passed.text opens passed.reads passed.lexes closes;
        utf8 = λ u. subst IsUtf8 (sym opens) (IsUtf8-append (34 ∷ []) inside (IsUtf8-is_ascii _ refl)
            (passed.utf8 (subst IsUtf8 (sym closes) (IsUtf8-append (34 ∷ []) rest (IsUtf8-is_ascii _ refl) u))));
      };
    }
