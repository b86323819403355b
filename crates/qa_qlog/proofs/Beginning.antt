-- What the beginning of a file shows.
use Rattle.std.proofs.Common.{◌≡◌, ◌∙◌, ◌+◌, ◌<◌, ◌∷◌, ◌==◌, ℕ, zero, suc, List, [], Bool, true, false, Some, None, Ok, length, take, get_or, min, refl, sym, ap, arith, add-one, eq-eqb, ne_eqb}
use Rattle.std.proofs.lemmas.List.{take_min}
use Rattle.std.proofs.lemmas.Str.{is_utf8-from_IsUtf8, IsUtf8-from_is_utf8}
use Rattle.std.specs.Prelude.{codes}
use Rattle.std.specs.Str.{IsUtf8, is_utf8}
use Rattle.memchr.specs.Find.{IsFirstByte, is_byte}
use Rattle.json.specs.Json.{Json, document}
use Rattle.qa_qlog.specs.declared.kinds.Kind.TheVariants.{TextSequence, Document}
use Rattle.qa_qlog.specs.Texts.{text_limit, line_feed}
use Rattle.qa_qlog.specs.Kinds.{first_line, is_netlog, has, is_header, by_json, by_line, is_text, unmarked, is_read}
use Rattle.std.specs.Io.BufRead.{take_through}

pub false_unless : (b : Bool) → (b ≡ true → ⊥) → b ≡ false
false_unless true never = absurd (never refl)
false_unless false never = refl

-- bytes that do not have the byte end nowhere before their end
pub all_through : (byte : ℕ) (bytes : List ℕ) → ((k : ℕ) → k < length bytes → (get_or bytes k 0 == byte) ≡ true → ⊥) → take_through byte bytes ≡ bytes
all_through byte [] never = refl
all_through byte (b ∷ bs) never =
    let not_here : (b == byte) ≡ false = false_unless (b == byte) (never 0 (omega arith)) in
    rw not_here (ap (λ k. b ∷ k) (all_through byte bs (λ k below. never (suc k) (omega arith))))

-- bytes end at the first place at which they have it
pub found_through : (byte : ℕ) (bytes : List ℕ) (n : ℕ) → n < length bytes → ((k : ℕ) → k < n → (get_or bytes k 0 == byte) ≡ true → ⊥)
    → (get_or bytes n 0 == byte) ≡ true → take_through byte bytes ≡ take (suc n) bytes
found_through byte [] n within never here = absurd (omega arith)
found_through byte (b ∷ bs) zero within never here = rw here refl
found_through byte (b ∷ bs) (suc n) within never here =
    let not_here : (b == byte) ≡ false = false_unless (b == byte) (never 0 (omega arith)) in
    rw not_here (ap (λ k. b ∷ k) (found_through byte bs n (omega arith) (λ k below. never (suc k) (omega arith)) here))

same_front : (bytes : List ℕ) (m : ℕ) → m ≡ min (length bytes) text_limit → take m bytes ≡ take text_limit bytes
same_front bytes m is =
    let other : m ≡ min text_limit (length bytes) = omega arith in
    ap (λ k. take k bytes) other ∙ take_min text_limit bytes

pub line_found : (bytes : List ℕ) (m n : ℕ) → m ≡ min (length bytes) text_limit → IsFirstByte (is_byte 10) (take m bytes) (Some n)
    → take (n + 1) (take m bytes) ≡ first_line bytes
line_found bytes m n is h =
    let found : take_through line_feed (take m bytes) ≡ take (suc n) (take m bytes) =
    found_through line_feed (take m bytes) n h.0.high (λ k below. h.0.before k (omega arith) below) h.1 in
    rw (add-one, ← found) (ap (take_through line_feed) (same_front bytes m is))

pub line_whole : (bytes : List ℕ) (m : ℕ) → m ≡ min (length bytes) text_limit → IsFirstByte (is_byte 10) (take m bytes) None
    → take m bytes ≡ first_line bytes
line_whole bytes m is h =
    let all : take_through line_feed (take m bytes) ≡ take m bytes = all_through line_feed (take m bytes) (λ k below. h k (omega arith) below) in
    sym all ∙ ap (take_through line_feed) (same_front bytes m is)

-- ---- what a line is

pub text_line : (line text : List ℕ) → is_netlog line ≡ false → text ≡ line → IsUtf8 line → by_json (document text) ≡ by_line line
text_line line text differs is utf8 =
    let t : is_utf8 line ≡ true = is_utf8-from_IsUtf8 line utf8 in
    rw (differs, t, is) refl

pub no_text_line : (line : List ℕ) → is_netlog line ≡ false → (IsUtf8 line → ⊥) → Ok Document ≡ by_line line
no_text_line line differs never =
    let t : is_utf8 line ≡ false = false_unless (is_utf8 line) (λ h. never (IsUtf8-from_is_utf8 line h)) in
    rw (differs, t) refl

pub text_read : (line : List ℕ) → is_netlog line ≡ false → IsUtf8 line → is_text line ≡ true
text_read line differs utf8 =
    let t : is_utf8 line ≡ true = is_utf8-from_IsUtf8 line utf8 in
    rw (differs, t) refl

-- ---- what bytes are

pub sequence : (bytes : List ℕ) → 0 < length bytes → get_or bytes 0 0 ≡ 30 → Ok TextSequence ≡ unmarked None bytes
sequence [] some is = absurd (omega arith)
sequence (b ∷ bs) some is =
    let t : (b == 30) ≡ true = eq-eqb b 30 is in
    rw t refl

pub other : (bytes : List ℕ) → 0 < length bytes → (get_or bytes 0 0 ≡ 30 → ⊥) → by_line (first_line bytes) ≡ unmarked None bytes
other [] some is = absurd (omega arith)
other (b ∷ bs) some is =
    let t : (b == 30) ≡ false = ne_eqb b 30 is in
    rw t refl

pub other_read : (bytes : List ℕ) → 0 < length bytes → (get_or bytes 0 0 ≡ 30 → ⊥) → is_text (first_line bytes) ≡ true → is_read None bytes ≡ true
other_read [] some is text = absurd (omega arith)
other_read (b ∷ bs) some is text =
    let t : (b == 30) ≡ false = ne_eqb b 30 is in
    rw t text

-- ---- what a header is

pub with_schema : (j : Json) → has (codes "traces") j ≡ false → has (codes "trace") j ≡ false → has (codes "qlog_format") j ≡ false
    → has (codes "file_schema") j ≡ true → true ≡ is_header j
with_schema j traces trace format schema = rw (traces, trace, format, schema) refl

pub by_serialization : (j : Json) → has (codes "traces") j ≡ false → has (codes "trace") j ≡ false → has (codes "qlog_format") j ≡ false
    → has (codes "file_schema") j ≡ false → has (codes "serialization_format") j ≡ is_header j
by_serialization j traces trace format schema = rw (traces, trace, format, schema) refl
