-- Which files are logs.
use Rattle.std.specs.Prelude.{◌⊎◌, ⊤, ℕ, List, codes, Result, Ok, Err}
use Rattle.memchr.specs.Find.{OccursAt}
use Rattle.qa_qlog.specs.Kinds.{kind_of}
use Rattle.qa_qlog.specs.declared.kinds.Kind.{Kind}
use Rattle.qa_qlog.specs.declared.kinds.Kind.TheVariants.{TextSequence, Lines, Document, Netlog}
use Rattle.qa_qlog.specs.declared.kinds.NoLog.{NoLog}

-- the text is somewhere in the bytes
abbrev pub Has : List ℕ → List ℕ → Type 0
Has bytes text = (k : ℕ) × OccursAt bytes text k

-- a key that only logs have at their beginning is somewhere in the bytes
abbrev pub HasKeyOfLogs : List ℕ → Type 0
HasKeyOfLogs bytes =
    Has bytes (codes "\"qlog_version\"") ⊎ Has bytes (codes "\"qlog_format\"")
    ⊎ Has bytes (codes "\"file_schema\"") ⊎ Has bytes (codes "\"traces\"")

-- a file is a log if its first byte or its first line shows it; one object, which may go over
-- several lines, is a log if it begins with a key of logs
abbrev pub IsLogBy : Result Kind NoLog → List ℕ → Type 0
IsLogBy (Ok TextSequence) bytes = ⊤
IsLogBy (Ok Lines) bytes = ⊤
IsLogBy (Ok Document) bytes = HasKeyOfLogs bytes
IsLogBy (Ok Netlog) bytes = ⊤
IsLogBy (Err fault) bytes = ⊥

-- a file that begins with these bytes is a log
abbrev pub IsLog : List ℕ → Type 0
IsLog bytes = IsLogBy (kind_of bytes) bytes
