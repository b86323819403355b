-- What a line says: a header, an event, nothing, or the first of the line's faults.
use Rattle.std.specs.Prelude.{ℕ, ◌==◌, ◌||◌, not, List, Bool, Option, is_some, ok_or, option_map}
use Rattle.std.specs.Prelude.{Result, Ok, Err, if◌then◌else◌}
use Rattle.std.specs.List.{list_all}
use Rattle.std.specs.Str.{is_utf8}
use Rattle.serde_json.specs.Data.{Data}
use Rattle.serde_json.specs.Find.{as_object}
use Rattle.serde_json.specs.Read.{read}
use Rattle.qa_format.specs.declared.fault.Fault.{Fault}
use Rattle.qa_format.specs.declared.fault.Fault.TheVariants.{NotJson, NotObject, UnknownEvent}
use Rattle.qa_base.specs.declared.key.Key.TheVariants as key
use Rattle.qa_base.specs.declared.event.Event.{Event}
use Rattle.qa_format.specs.declared.line.Line.{Line}
use Rattle.qa_format.specs.declared.line.Line.TheVariants as line
use Rattle.qa_base.specs.declared.line_kind.LineKind.{LineKind}
use Rattle.qa_base.specs.declared.line_kind.LineKind.TheVariants as kinds
use Rattle.qa_format.specs.format.Keys.{◌>>=◌, string, required}
use Rattle.qa_base.specs.values.Names.{line_kind_named}
use Rattle.qa_format.specs.format.Tables.{header_of, sent_of, ack_of, lost_of, timer_of, discard_of}
use Rattle.qa_format.specs.format.Tables.{confirmed_of, keys_of, metrics_of}

-- ---- by the key `event`

-- what an object says
abbrev pub Reader : Type 0
Reader = Data → Result Line Fault

abbrev pub header_line : Reader
header_line d = header_of d >>= λ s. Ok (line.Header s)

-- the line of an event that is read so
abbrev pub event_line : (Data → Result Event Fault) → Reader
event_line event_of d = event_of d >>= λ e. Ok (line.Event e)

-- how the keys of a line of this kind are read
abbrev pub reader_of : LineKind → Reader
reader_of kinds.Header = header_line
reader_of kinds.Sent = event_line sent_of
reader_of kinds.Ack = event_line ack_of
reader_of kinds.Lost = event_line lost_of
reader_of kinds.Timer = event_line timer_of
reader_of kinds.Discard = event_line discard_of
reader_of kinds.Confirmed = event_line confirmed_of
reader_of kinds.Keys = event_line keys_of
reader_of kinds.Metrics = event_line metrics_of

-- how the keys of a line are read whose `event` is this string
abbrev pub reader_named : List ℕ → Option Reader
reader_named t = option_map reader_of (line_kind_named t)

-- ---- the line, for any choice of readers by name

-- what an object says, by its key `event`
unfoldable pub object_says : (List ℕ → Option Reader) → Reader
object_says readers d = if not (is_some (as_object d)) then Err NotObject else
    (required string key.Event d >>= λ t. ok_or (readers t) UnknownEvent >>= λ reader. reader d)

-- the JSON value that the bytes are, which are text in UTF-8
unfoldable pub json_of : List ℕ → Result Data Fault
json_of bytes = if is_utf8 bytes then ok_or (read bytes) NotJson else Err NotJson

-- a space, a tab or a carriage return
abbrev pub is_blank : ℕ → Bool
is_blank b = b == 32 || b == 9 || b == 13

-- what a line says, or its first fault
unfoldable pub reading_by : (List ℕ → Option Reader) → List ℕ → Result Line Fault
reading_by readers bytes =
    if list_all is_blank bytes then Ok line.Blank else (json_of bytes >>= object_says readers)

-- what a line of a trace says, or its first fault
abbrev pub reading : List ℕ → Result Line Fault
reading = reading_by reader_named
