-- What there is to warn of in a trace.
use Rattle.std.specs.Prelude.{ℕ, ◌+◌, nat_lt, length, map, List, [], ◌∷◌, ◌++◌, Option, Some, None}
use Rattle.std.specs.Prelude.{Result, Ok, if◌then◌else◌}
use Rattle.qa_base.specs.declared.event.Event.{Event}
use Rattle.qa_base.specs.declared.event.Event.TheVariants.{Sent, Metrics}
use Rattle.qa_base.specs.declared.header.Version.{Version}
use Rattle.qa_base.specs.declared.line_kind.LineKind.TheVariants as kinds
use Rattle.qa_base.specs.values.Settings.{Settings}
use Rattle.qa_format.specs.declared.fault.Fault.{Fault}
use Rattle.qa_format.specs.declared.line.Line.{Line}
use Rattle.qa_format.specs.declared.line.Line.TheVariants as line
use Rattle.qa_format.specs.format.Reading.{reading}
use Rattle.qa_format.specs.verdicts.Verdict.{header_in}
use Rattle.qa_why_command.specs.warnings.Strange.{keys_in, strange}

-- a key of the header or of a metrics line that does nothing in a version, or a packet of so many
-- bytes, which are more than these
pub data Concern : Type 0 where
  HeaderKey : Version → List ℕ → Concern
  MetricsKey : Version → List ℕ → Concern
  LargePacket : Event → ℕ → ℕ → Concern

-- of what there is to warn, and on which line
pub record Found : Type 0 where
  pub line : ℕ
  pub concern : Concern

abbrev pub at : ℕ → Concern → Found
at n concern = record { line = n; concern = concern }

-- ---- in a line

abbrev pub of_header : Version → List ℕ → List Concern
of_header v l = map (HeaderKey v) (strange v kinds.Header (keys_in l))

abbrev pub of_metrics : Version → List ℕ → List Concern
of_metrics v l = map (MetricsKey v) (strange v kinds.Metrics (keys_in l))

-- a packet is too large that has more than max_datagram_size bytes
abbrev pub of_packet : ℕ → Event → ℕ → List Concern
of_packet max_datagram_size e size =
    if nat_lt max_datagram_size size then LargePacket e size max_datagram_size ∷ [] else []

-- in the line of an event, under a header
abbrev pub of_event_under : Settings → Event → List ℕ → List Concern
of_event_under c (Metrics time values) l = of_metrics c.version l
of_event_under c (Sent packet) l = of_packet c.max_datagram_size (Sent packet) packet.size
of_event_under c e l = []

-- in the line of an event, behind a header or none
abbrev pub of_event : Option Settings → Event → List ℕ → List Concern
of_event None e l = []
of_event (Some c) e l = of_event_under c e l

-- in a line that says this, behind a header or none
abbrev pub of_line : Option Settings → Result Line Fault → List ℕ → List Concern
of_line header (Ok (line.Header c)) l = of_header c.version l
of_line header (Ok (line.Event e)) l = of_event header e l
of_line header said l = []

-- ---- in the lines of a trace

-- in the line that stands behind these
abbrev pub found_on : List (List ℕ) → List ℕ → List Found
found_on before l = map (at (length before + 1)) (of_line (header_in reading before) (reading l) l)

abbrev pub found_after : List (List ℕ) → List (List ℕ) → List Found
found_after before [] = []
found_after before (l ∷ ls) = found_on before l ++ found_after (before ++ l ∷ []) ls

-- all that there is to warn of, in the order of the lines
abbrev pub found : List (List ℕ) → List Found
found ls = found_after [] ls
