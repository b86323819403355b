-- What a file is, by its beginning.
use Rattle.std.specs.Prelude.{◌==◌, ◌||◌, ◌&&◌, ℕ, Bool, not, false, List, [], ◌∷◌, take, drop}
use Rattle.std.specs.Prelude.{nat_eq, codes, Option, Some, None, is_some, Result, Ok, Err}
use Rattle.std.specs.Prelude.{if◌then◌else◌}
use Rattle.std.specs.List.{starts_with}
use Rattle.std.specs.Str.{is_utf8, bytes_eq}
use Rattle.std.specs.Io.BufRead.{take_through}
use Rattle.json.specs.Json.{Json, document}
use Rattle.json.specs.Find.{get, as_str}
use Rattle.qa_qlog.specs.declared.kinds.Kind.{Kind}
use Rattle.qa_qlog.specs.declared.kinds.Kind.TheVariants.{TextSequence, Lines, Document, Netlog}
use Rattle.qa_qlog.specs.declared.kinds.NoLog.{NoLog}
use Rattle.qa_qlog.specs.declared.kinds.NoLog.TheVariants as no
use Rattle.qa_qlog.specs.Texts.{text_limit, line_feed, record_separator, is_white}

-- ---- by the first bytes

-- files that are no log, by their first bytes
abbrev pub marks : List (List ℕ × NoLog)
marks =
    (31 ∷ 139 ∷ [], no.Gzip)
    ∷ (253 ∷ 55 ∷ 122 ∷ 88 ∷ 90 ∷ 0 ∷ [], no.Xz)
    ∷ (40 ∷ 181 ∷ 47 ∷ 253 ∷ [], no.Zstd)
    ∷ (66 ∷ 90 ∷ 104 ∷ [], no.Bzip2)
    ∷ (80 ∷ 75 ∷ 3 ∷ 4 ∷ [], no.Zip)
    ∷ (239 ∷ 187 ∷ 191 ∷ [], no.ByteOrderMark)
    ∷ (212 ∷ 195 ∷ 178 ∷ 161 ∷ [], no.Capture)
    ∷ (10 ∷ 13 ∷ 13 ∷ 10 ∷ [], no.Capture)
    ∷ []

abbrev pub marked : List (List ℕ × NoLog) → List ℕ → Option NoLog
marked [] bytes = None
marked (m ∷ ms) bytes = if starts_with nat_eq bytes m.0 then Some m.1 else marked ms bytes

-- ---- by the first line

-- the first line with its LF, at most 1 MiB of it
abbrev pub first_line : List ℕ → List ℕ
first_line bytes = take_through line_feed (take text_limit bytes)

abbrev pub after_white : List ℕ → List ℕ
after_white [] = []
after_white (b ∷ bs) = if is_white b then after_white bs else b ∷ bs

-- a log of Chromium is an object whose first key is `constants`
abbrev pub is_netlog : List ℕ → Bool
is_netlog line =
    starts_with nat_eq (after_white line) (codes "{")
    && starts_with nat_eq (after_white (drop 1 (after_white line))) (codes "\"constants\"")

-- ---- by the first line as JSON

unfoldable pub has : List ℕ → Json → Bool
has key j = is_some (get key j)

abbrev pub is_some_text : List ℕ → Option (List ℕ) → Bool
is_some_text text None = false
is_some_text text (Some found) = bytes_eq found text

-- a string of this text
abbrev pub is_string : List ℕ → Option Json → Bool
is_string text None = false
is_string text (Some j) = is_some_text text (as_str j)

-- the key `event` of a trace's header is `header`
abbrev pub is_trace : Json → Bool
is_trace j = is_string (codes "header") (get (codes "event") j)

-- the header of a log with a text a line has one of these keys, and no `traces`
abbrev pub is_header : Json → Bool
is_header j =
    not (has (codes "traces") j)
    && (has (codes "trace") j || (has (codes "qlog_format") j || (has (codes "file_schema") j
    || has (codes "serialization_format") j)))

abbrev pub by_json : Option Json → Result Kind NoLog
by_json None = Ok Document
by_json (Some j) =
    if is_trace j then Err no.Trace
    else if is_header j then Ok Lines
    else Ok Document

abbrev pub json_of : List ℕ → Option Json
json_of bytes = if is_utf8 bytes then document bytes else None

abbrev pub by_line : List ℕ → Result Kind NoLog
by_line line = if is_netlog line then Ok Netlog else by_json (json_of line)

abbrev pub is_text : List ℕ → Bool
is_text line = not (is_netlog line) && is_utf8 line

abbrev pub unmarked : Option NoLog → List ℕ → Result Kind NoLog
unmarked (Some fault) bytes = Err fault
unmarked None [] = Err no.Empty
unmarked None (b ∷ bs) =
    if b == record_separator then Ok TextSequence else by_line (first_line (b ∷ bs))

abbrev pub kind_of : List ℕ → Result Kind NoLog
kind_of bytes = unmarked (marked marks bytes) bytes

-- the first line is read as JSON, since neither the first bytes nor its beginning say what it is
abbrev pub is_read : Option NoLog → List ℕ → Bool
is_read (Some fault) bytes = false
is_read None [] = false
is_read None (b ∷ bs) = not (b == record_separator) && is_text (first_line (b ∷ bs))
