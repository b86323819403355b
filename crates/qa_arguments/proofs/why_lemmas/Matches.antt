-- What is read of the matches.
use Rattle.std.proofs.Common.{◌<◌, ◌==◌, cond, drop, arith, ◌≡◌, ◌∙◌, ℕ, Bool, true, false, List, [], ◌∷◌, length, Option, Some, None, refl, sym, ap, codes, bytes_eq, ◌&&◌, ltb-true, lt-ltb}
use Rattle.std.specs.Prelude.{pos, find, option_map, option_and_then, unwrap_or, nat_lt, Ok, Err, Result, ◌^◌}
use Rattle.std.specs.List.{list_all}
use Rattle.std.specs.Borrow.{Bor}
use Rattle.std.specs.Option.{option_map_or}
use Rattle.std.specs.Char.{digit_value}
use Rattle.std.specs.Str.Parse.{AllDigits, IsNumeral, ParsesBool, ParsesUnsigned, digits_value, starts_with_minus, without_leading_plus, without_leading_sign}
use Rattle.std.proofs.lemmas.Bool.{ne_eqb}
use Rattle.std.proofs.lemmas.Str.Parse.{digit_from_value}
use Rattle.std.proofs.lemmas.Int.{ints}
use Rattle.clap.specs.Lexer.{without_minus}
use Rattle.clap.specs.Values.{IsSignedIn}
use Rattle.clap.specs.declared.builder.value_parser.ValueParser.TheVariants.{Signed}
use Rattle.qa_arguments.specs.why.Words.{is_lines}
use Rattle.std.proofs.lemmas.Slice.Eq.{bytes_eq-Decides}
use Rattle.clap.proofs.WalkLemmas.{both, find_row, one_text-rows, raw_values-rows}
use Rattle.clap.proofs.ValueTestLemmas.{accepts-Accepts}
use Rattle.clap.specs.Facts.{Entry}
use Rattle.clap.specs.Matches.{ReadsOne, matched_of, one_text, raw_values}
use Rattle.clap.specs.ValueTests.{is_numeral}
use Rattle.clap.specs.Walk.{Row, Text, all_of, row_of, rows_of}
use Rattle.clap.specs.declared.parser.matches.Found.{Found}
use Rattle.clap.specs.declared.parser.matches.MatchedArg.{MatchedArg}
use Rattle.clap.specs.declared.parser.matches.ValueSource.{ValueSource}
use Rattle.qa_arguments.specs.why.Asked.{by_words, is_given, flag_in, number_in, number_or_zero}

-- ---- names of files

pub files_found : (f : Found) (names : List Text) → Some names ≡ option_map raw_values (matched_of f (codes "FILE"))
    → names ≡ unwrap_or (all_of (codes "FILE") (rows_of f)) []
files_found f names is = ap (λ (o : Option (List Text)). unwrap_or o []) (is ∙ raw_values-rows f (codes "FILE"))

pub no_files_found : (f : Found) → None ≡ option_map raw_values (matched_of f (codes "FILE")) → [] ≡ unwrap_or (all_of (codes "FILE") (rows_of f)) []
no_files_found f is = ap (λ (o : Option (List Text)). unwrap_or o []) (is ∙ raw_values-rows f (codes "FILE"))

-- ---- where a value came from

source_of : (o : Option Entry) → option_and_then (λ (a : MatchedArg). a.source) (option_map (λ e. e.1) o) ≡ option_and_then (λ (row : Row). row.source) (option_map row_of o)
source_of None = refl
source_of (Some e) = refl

source_found : (f : Found) (name : Text) → option_and_then (λ (a : MatchedArg). a.source) (matched_of f name)
    ≡ option_and_then (λ (row : Row). row.source) (find (λ row. bytes_eq row.id name) (rows_of f))
source_found f name =
    source_of (find (λ (e : Entry). bytes_eq e.0.now name) f.entries.items) ∙ ap (option_and_then (λ (row : Row). row.source)) (sym (find_row f.entries.items name))

pub given_by : (f : Found) (name : Text) (source is : Option ValueSource) → source ≡ option_and_then (λ (a : MatchedArg). a.source) (matched_of f name)
    → source ≡ is → by_words is ≡ is_given name (rows_of f)
given_by f name source is found same = ap by_words (sym same ∙ (found ∙ source_found f name))

-- ---- flags

no_flag : (t : Text) → (t ≡ codes "true" → ⊥) → (b : Bool) → bytes_eq t (codes "true") ≡ b → false ≡ b
no_flag t other true is = absurd (other ((bytes_eq-Decides t (codes "true")).0 is))
no_flag t other false is = refl

flag_text : (E : Type 0) (t : Text) (r : Option Bool) → ReadsOne {T = Bool} {E = E} ParsesBool t r → unwrap_or r false ≡ bytes_eq t (codes "true")
flag_text E t (Some true) is = sym (ap (λ (u : Text). bytes_eq u (codes "true")) is)
flag_text E t (Some false) is = sym (ap (λ (u : Text). bytes_eq u (codes "true")) is)
flag_text E t None none = no_flag t none.1.0 _ refl

flag_of : (E : Type 0) (o : Option Text) (r : Option Bool) → (o ≡ None → r ≡ None) → ((t : Text) → o ≡ Some t → ReadsOne {T = Bool} {E = E} ParsesBool t r)
    → unwrap_or r false ≡ option_map_or (λ text. bytes_eq text (codes "true")) o false
flag_of E None r none value = ap (λ (x : Option Bool). unwrap_or x false) (none refl)
flag_of E (Some t) r none value = flag_text E t r (value t refl)

pub flag_found : (E : Type 0) (f : Found) (name : Text) (r : Option Bool) → (one_text f name ≡ None → r ≡ None)
    → ((t : Text) → one_text f name ≡ Some t → ReadsOne {T = Bool} {E = E} ParsesBool t r) → unwrap_or r false ≡ flag_in name (rows_of f)
flag_found E f name r none value =
    flag_of E (one_text f name) r none value
    ∙ ap (λ (o : Option Text). option_map_or (λ text. bytes_eq text (codes "true")) o false) (one_text-rows f name)

-- ---- numbers

digits_pass : (ds : List ℕ) → AllDigits 10 ds → list_all (λ d. nat_lt (digit_value d) 10) ds ≡ true
digits_pass [] h = refl
digits_pass (d ∷ ds) h = rw (lt-ltb (digit_value d) 10 h.0) (digits_pass ds h.1)

digits_from : (ds : List ℕ) → list_all (λ d. nat_lt (digit_value d) 10) ds ≡ true → AllDigits 10 ds
digits_from [] e = tt
digits_from (d ∷ ds) e =
    let parts = both _ _ e in
    (ltb-true _ _ parts.0, digits_from ds parts.1)

abbrev is_number : List ℕ → Bool
is_number ds = is_numeral ds && nat_lt (digits_value 10 ds) (2 ^ 16)

number_some : (E : Type 0) (t : Text) (n : ℕ) → ParsesUnsigned {E = E} 16 10 t (Ok n) → n ≡ number_or_zero t
number_some E t n h =
    let ds = without_leading_plus t in
    rw (lt-ltb 0 (length ds) h.0.0.0, digits_pass ds h.0.0.1, lt-ltb (digits_value 10 ds) (2 ^ 16) h.0.1) h.1

number_none : {E : Type 0} (t : Text) (e : E) → ParsesUnsigned 16 10 t (Err e) → (b : Bool) → is_number (without_leading_plus t) ≡ b → 0 ≡ number_or_zero t
number_none t e h false is = rw is refl
number_none t e h true is =
    let outer = both _ _ is in
    let inner = both _ _ outer.0 in
    absurd (h ((ltb-true _ _ inner.0, digits_from (without_leading_plus t) inner.1), ltb-true _ _ outer.1))

number_text : {E : Type 0} (G : Text → Result ℕ E → Type 0) (t : Text) (r : Option ℕ) → ((u : Text) (x : Result ℕ E) → G u x → ParsesUnsigned 16 10 u x)
    → ReadsOne G t r → unwrap_or r 0 ≡ number_or_zero t
number_text {E} G t (Some n) only h = number_some E t n (only t (Ok n) h)
number_text G t None only h = number_none t h.0 (only t (Err h.0) h.1) _ refl

number_of : {E : Type 0} (G : Text → Result ℕ E → Type 0) (o : Option Text) (r : Option ℕ) → ((u : Text) (x : Result ℕ E) → G u x → ParsesUnsigned 16 10 u x)
    → (o ≡ None → r ≡ None) → ((t : Text) → o ≡ Some t → ReadsOne G t r) → unwrap_or r 0 ≡ option_map_or number_or_zero o 0
number_of G None r only none value = ap (λ (x : Option ℕ). unwrap_or x 0) (none refl)
number_of G (Some t) r only none value = number_text G t r only (value t refl)

pub number_found : {E : Type 0} (G : Text → Result ℕ E → Type 0) (f : Found) (name : Text) (r : Option ℕ)
    → ((u : Text) (x : Result ℕ E) → G u x → ParsesUnsigned 16 10 u x)
    → (one_text f name ≡ None → r ≡ None) → ((t : Text) → one_text f name ≡ Some t → ReadsOne G t r) → unwrap_or r 0 ≡ number_in name (rows_of f)
number_found G f name r only none value =
    number_of G (one_text f name) r only none value ∙ ap (λ (o : Option Text). option_map_or number_or_zero o 0) (one_text-rows f name)

minus_off : (t : Text) → without_minus t ≡ cond (starts_with_minus t) (drop 1 t) t
minus_off [] = refl
minus_off (x ∷ xs) = go (x == 45)
  where
    go : (b : Bool) → unwrap_or (cond b (Some xs) None) (x ∷ xs) ≡ cond b xs (x ∷ xs)
    go true = refl
    go false = refl

no_plus : (ds : List ℕ) → IsNumeral 10 ds → without_leading_plus ds ≡ ds
no_plus [] h = refl
no_plus (d ∷ ds) h =
    let plus : (d == 43) ≡ false = ne_eqb _ _ (λ e. omega (arith, digit_from_value d h.1.0)) in
    ap (λ (b : Bool). drop (cond b 1 0) (d ∷ ds)) plus

number_at : (t : Text) → IsNumeral 10 (without_leading_plus t) → digits_value 10 (without_leading_plus t) < 2 ^ 16
    → number_or_zero t ≡ digits_value 10 (without_leading_plus t)
number_at t numeral small = sym (number_some ℕ t _ ((numeral, small), refl))

-- a number of lines is the number that its digits write
pub number_is : (t : Text) → is_lines t ≡ true → number_or_zero (without_minus t) ≡ digits_value 10 (without_leading_sign t)
number_is t lines = go (starts_with_minus t) refl (accepts-Accepts false (Signed (pos 0) (pos 1000)) t lines)
  where
    go : (b : Bool) → starts_with_minus t ≡ b → IsSignedIn (pos 0) (pos 1000) t → number_or_zero (without_minus t) ≡ digits_value 10 (without_leading_sign t)
    go true minus passed =
        let low_ok = rw minus at passed.2 in
        let numeral : IsNumeral 10 (drop 1 t) = rw minus at passed.0 in
        let same = no_plus (drop 1 t) numeral in
        let small : digits_value 10 (drop 1 t) < 2 ^ 16 = omega (arith, ints) in
        rw (minus_off t, minus) (number_at (drop 1 t) (rw same numeral) (rw same small) ∙ ap (digits_value 10) same)
    go false minus passed =
        let low_ok = rw minus at passed.2 in
        let high_ok = rw minus at passed.3 in
        let numeral = rw minus at passed.0 in
        let small : digits_value 10 (without_leading_plus t) < 2 ^ 16 = omega (arith, ints) in
        rw (minus_off t, minus) (number_at t numeral small)

-- ---- two options

abbrev pub names_of_pair : Bor Text × Bor Text → Text × Text
names_of_pair pair = (pair.0.now, pair.1.now)
