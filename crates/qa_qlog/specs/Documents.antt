-- The traces of a log that is one object, and their records: `QlogFile` and `Trace` of
-- draft-ietf-quic-qlog-main-schema.
use Rattle.std.specs.Prelude.{List, [], codes, Option, Some, None, Result, Ok, Err, ok_or}
use Rattle.std.specs.Prelude.{option_map}
use Rattle.json.specs.Json.{Json}
use Rattle.json.specs.Find.{get, as_array}
use Rattle.qa_qlog.specs.declared.keys.Key.TheVariants.{Traces, Events}
use Rattle.qa_qlog.specs.declared.keys.NoValue.{NoValue}
use Rattle.qa_qlog.specs.declared.keys.NoValue.TheVariants.{Missing, OtherKind}
use Rattle.qa_qlog.specs.Frames.{listed, objects_in}

abbrev pub traces_at : Option Json → Result (List Json) NoValue
traces_at None = Err (Missing Traces)
traces_at (Some j) = objects_in Traces j

-- each trace is an object. What a trace does not say of itself, the document says of all: the head
-- of a trace is `Heads.head_in` of the document and the trace
abbrev pub traces : Json → Result (List Json) NoValue
traces j = traces_at (get (codes "traces") j)

abbrev pub records_in : Json → Result (List Json) NoValue
records_in j = ok_or (option_map listed (as_array j)) (OtherKind Events)

abbrev pub records_at : Option Json → Result (List Json) NoValue
records_at None = Ok []
records_at (Some j) = records_in j

-- the records of a trace, which may be of any kind
abbrev pub records : Json → Result (List Json) NoValue
records j = records_at (get (codes "events") j)
