-- What a log says beside its records: the head of each of its traces, and who wrote it.
use Rattle.std.specs.Prelude.{◌≡◌, ◌-◌, ℕ, List, [], ◌∷◌, codes, map, Option, Some, None}
use Rattle.std.specs.Prelude.{option_and_then, unwrap_or, Result, Ok, Err, if◌then◌else◌}
use Rattle.std.specs.Borrow.{Bor}
use Rattle.json.specs.Json.{Json}
use Rattle.json.specs.Find.{at, get}
use Rattle.qa_convert.specs.Dialects.{kind_of}
use Rattle.qa_convert.specs.declared.dialects.Dialect.{Dialect}
use Rattle.qa_qlog.specs.Heads.{head_in, said}
use Rattle.qa_qlog.specs.Heads as heads
use Rattle.qa_qlog.specs.Kinds.{json_of}
use Rattle.qa_qlog.specs.Says.{is_object, text_at}
use Rattle.qa_qlog.specs.declared.heads.Head.{Head}
use Rattle.qa_qlog.specs.declared.heads.NoHead.{NoHead}
use Rattle.qa_qlog.specs.declared.heads.NoHead.TheVariants.{NotJson}
use Rattle.qa_logs.specs.declared.cutting.Form.{Form}
use Rattle.qa_logs.specs.declared.cutting.Form.TheVariants as form
use Rattle.qa_logs.specs.declared.log.Log.{Log}

-- ---- heads

-- the trace of this number, from 1 on, if a document has it
abbrev pub trace_of : ℕ → Json → Option Json
trace_of number document = option_and_then (at (number - 1)) (get (codes "traces") document)

abbrev pub in_document : ℕ → Option Json → Result Head NoHead
in_document number None = Err NotJson
in_document number (Some document) = head_in document (trace_of number document)

-- the head of the trace of this number: of many texts the first one is the head, and of one object
-- the trace and what is beside it
abbrev pub head_of : Form → List ℕ → ℕ → Result Head NoHead
head_of (form.Texts mark) text number = heads.head_of text
head_of form.Document text number = in_document number (json_of text)

abbrev pub IsHead : Log → ℕ → Head → Type 0
IsHead log number head = head_of log.form log.head.items number ≡ Ok head

-- ---- who wrote it

-- the text of a string, and an empty one of anything else
abbrev pub text_of : Option Json → List ℕ
text_of o = unwrap_or (text_at o) []

-- the name at a vantage point, which the first drafts have as a string
abbrev pub name_of : Option Json → Option Json
name_of None = None
name_of (Some j) = if is_object j then get (codes "name") j else Some j

-- what says who wrote it: what the trace says counts for more than what is beside it
abbrev pub said_of_writer : Json → Option Json → List (List ℕ)
said_of_writer head trace =
    text_of (said (codes "title") head trace)
    ∷ text_of (said (codes "description") head trace)
    ∷ text_of (name_of (said (codes "vantage_point") head trace))
    ∷ text_of (said (codes "code_version") head trace) ∷ []

-- the schema of its events, or if there is none the version of the log
abbrev pub or_version : List ℕ → List ℕ → List ℕ
or_version [] version = version
or_version (b ∷ bs) version = b ∷ bs

abbrev pub schema_of : Json → Option Json → List ℕ
schema_of head trace = or_version (text_of (said (codes "file_schema") head trace))
    (text_of (said (codes "qlog_version") head trace))

-- the dialect of a log with this head, of which a trace says more
abbrev pub IsDialectIn : Json → Option Json → Dialect → Type 0
IsDialectIn head trace dialect = (texts : List (Bor (List ℕ)))
    × (map (λ t. t.now) texts ≡ said_of_writer head trace)
    × (dialect ≡ kind_of texts (schema_of head trace))

-- what says more of the trace of this number than the head of the log
abbrev pub trace_in : Form → ℕ → Json → Option Json
trace_in (form.Texts mark) number head = get (codes "trace") head
trace_in form.Document number head = trace_of number head

-- the dialect of the trace of this number
abbrev pub IsDialect : Log → ℕ → Dialect → Type 0
IsDialect log number dialect = (head : Json) × (json_of log.head.items ≡ Some head)
    × IsDialectIn head (trace_in log.form number head) dialect
