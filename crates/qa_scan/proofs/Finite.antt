-- Numbers that a 64-bit float or integer holds.
use Rattle.std.proofs.Common.{◌≡◌, ◌∙◌, ℕ, List, [], ◌∷◌, ◌++◌, Bool, true, false, cond, ◌==◌, get_or, drop, Option, Some, None, is_some, IsUtf8, refl, sym, ap, subst}
use Rattle.std.specs.Float.{binary64, float_is_finite}
use Rattle.std.proofs.lemmas.Bool.{false≢true, ne_eqb}
use Rattle.std.proofs.lemmas.Str.{IsUtf8-append}
use Rattle.fast_float.specs.Text.{Parts, scan, nearest}
use Rattle.json.specs.Lex.{token, lex, between}
use Rattle.json.specs.Print as print
use Rattle.json.specs.Token as tokens
use Rattle.json.specs.Word.{ends_word}
use Rattle.json.proofs.Printed.Numbers.{lex-number}
use Rattle.serde_json.specs.Data.{Num}
use Rattle.serde_json.specs.Read.{number_from, number_of}
use Rattle.qa_scan.specs.Lexes.{Lexes, IsNumber}

-- ---- what serde_json reads

either_way : (c : Bool) (x : Num) (o : Option Num) → is_some o ≡ true → is_some (cond c (Some x) o) ≡ true
either_way true x o h = refl
either_way false x o h = h

where_it_holds : (c : Bool) (x : Num) → c ≡ true → is_some (cond c (Some x) None) ≡ true
where_it_holds c x h = ap (λ b. is_some (cond b (Some x) None)) h

-- a number whose nearest float is finite is read
pub finite_read : (negative : Bool) (p : Parts) → float_is_finite (nearest binary64 negative p) ≡ true → is_some (number_from negative p) ≡ true
finite_read true p h = either_way _ _ _ (where_it_holds _ _ h)
finite_read false p h = either_way _ _ _ (where_it_holds _ _ h)

-- by its first byte
pub with_minus : (text : List ℕ) → get_or text 0 0 ≡ 45 → is_some (number_from true (scan (drop 1 text))) ≡ true → is_some (number_of text) ≡ true
unfolding number_of
with_minus text first h = ap (λ x. is_some (cond (x == 45) (number_from true (scan (drop 1 text))) (number_from false (scan text)))) first ∙ h

pub without_minus : (text : List ℕ) → (get_or text 0 0 ≡ 45 → ⊥) → is_some (number_from false (scan text)) ≡ true → is_some (number_of text) ≡ true
unfolding number_of
without_minus text first h = ap (λ b. is_some (cond b (number_from true (scan (drop 1 text))) (number_from false (scan text)))) (ne_eqb (get_or text 0 0) 45 first) ∙ h

-- ---- what the lexer reads

number_at : (o : Option Num) (text bytes rest : List ℕ) → number_of text ≡ o → is_some o ≡ true → Lexes bytes rest (token (tokens.number text) ∷ []) → IsNumber bytes rest
number_at None text bytes rest is h lexed = absurd (false≢true h)
number_at (Some n) text bytes rest is h lexed = record { text = text; number = n; reads = is; lexed = lexed }

pub is_number : (text bytes rest : List ℕ) → print.IsNumber text → IsUtf8 text → is_some (number_of text) ≡ true → ends_word rest ≡ true → bytes ≡ text ++ rest → IsNumber bytes rest
is_number text bytes rest form utf8 read ended is =
    number_at (number_of text) text bytes rest refl read (record {
      ends = (text, is);
      lexes = ap (lex between) is ∙ lex-number text rest form ended;
      utf8 = λ u. subst IsUtf8 (sym is) (IsUtf8-append text rest utf8 u);
    })
