-- The kind of a line, by what stands at its key `event`.
use Rattle.std.specs.Prelude.{Option, Some, None}
use Rattle.qa_base.specs.declared.line_kind.LineKind.{LineKind}
use Rattle.qa_base.specs.declared.line_kind.LineKind.TheVariants as kinds
use Rattle.qa_format.specs.declared.line.Line.{Line}
use Rattle.qa_format.specs.declared.line.Line.TheVariants as line
use Rattle.qa_base.specs.values.Kinds.{event_kind}

-- a blank line has no kind
abbrev pub line_kind : Line → Option LineKind
line_kind line.Blank = None
line_kind (line.Header c) = Some kinds.Header
line_kind (line.Event e) = Some (event_kind e)
