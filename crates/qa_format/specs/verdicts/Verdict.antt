-- What is said of a trace, by any reading of its lines and any rules.
use Rattle.std.specs.Prelude.{◌≡◌, ℕ, ◌+◌, ◌⊎◌, ◌<◌, ◌≤◌, nat_lt, nat_le, Bool, true, false}
use Rattle.std.specs.Prelude.{is_some, List, [], ◌∷◌, ◌++◌, length, map, filter_map, Option, Some}
use Rattle.std.specs.Prelude.{None, option_map, unwrap_or, IsSome, Result, Ok, Err, if◌then◌else◌}
use Rattle.std.specs.List.{filter, AllByRecursion}
use Rattle.std.specs.Option.{option_or}
use Rattle.qa_base.specs.declared.event.Event.{Event}
use Rattle.qa_format.specs.declared.line.Line.{Line}
use Rattle.qa_format.specs.declared.line.Line.TheVariants as line
use Rattle.qa_format.specs.declared.fault.Fault.{Fault}
use Rattle.qa_format.specs.declared.fault.Fault.TheVariants.{HeaderPlace, LineTooLong, TooManyLines}
use Rattle.qa_base.specs.declared.totals.Totals.{Totals}
use Rattle.qa_format.specs.declared.verdict.Verdict.{Verdict}
use Rattle.qa_format.specs.declared.verdict.Verdict.TheVariants.{Accepted, Refused, Unreadable}
use Rattle.qa_base.specs.values.Limits.{max_lines}
use Rattle.qa_format.specs.format.Lines.{line_limit, lines, ended_lines, unended}
use Rattle.qa_base.specs.machine.Packets.{history_of, is_some_packet}
use Rattle.qa_base.specs.machine.Rules.{first_broken, IsRun, IsComplete}
use Rattle.qa_base.specs.declared.rule.Rule.{Rule}
use Rattle.qa_base.specs.declared.rule.Rule.TheVariants.{OwedAtEnd}
use Rattle.qa_base.specs.machine.Loss.{owed}
use Rattle.qa_base.specs.values.Settings.{Settings}
use Rattle.qa_base.specs.machine.State.{totals}

-- what the bytes of a line say, or the fault of the line
abbrev pub Reading : Type 0
Reading = List ℕ → Result Line Fault

-- the rule by which an event ends a trace, after a header and a history
abbrev pub Breaking : Type 0
Breaking = Settings → List Event → Event → Option Rule

-- how a trace is judged: what its lines say, and which events end it
pub record Judging : Type 0 where
  pub says : Reading
  pub breaks : Breaking

-- an event ends a trace that breaks a rule, by the first that it breaks
abbrev pub strict : Reading → Judging
strict reading = record { says = reading; breaks = first_broken }

-- ---- what lines say

abbrev pub header_said : Result Line Fault → Option Settings
header_said (Ok (line.Header c)) = Some c
header_said _ = None

abbrev pub event_said : Result Line Fault → Option Event
event_said (Ok (line.Event e)) = Some e
event_said _ = None

-- the header of these lines, the first if there are more
abbrev pub header_in : Reading → List (List ℕ) → Option Settings
header_in reading [] = None
header_in reading (l ∷ ls) = option_or (header_said (reading l)) (header_in reading ls)

-- the events of these lines, in order
abbrev pub events_in : Reading → List (List ℕ) → List Event
events_in reading ls = filter_map (λ l. event_said (reading l)) ls

-- what a line says that comes after n others: too many lines and too many bytes are its first
-- faults
unfoldable pub said : Reading → ℕ → List ℕ → Result Line Fault
said reading n l =
    if nat_le max_lines n then Err TooManyLines
    else (if nat_lt line_limit (length l) then Err LineTooLong else reading l)

-- ---- the first line that is not good

-- line n cannot be read
abbrev pub unreadable : ℕ → Option Settings → List Event → Fault → Verdict
unreadable n header h f = Unreadable n f (option_map (λ c. totals c h) header)

-- the verdict where line n, which says this after a header and a history, is not good
abbrev pub stop_at : Breaking → ℕ → Option Settings → List Event → Result Line Fault
    → Option Verdict
stop_at breaks n header h (Err f) = Some (unreadable n header h f)
stop_at breaks n header h (Ok line.Blank) = None
stop_at breaks n None h (Ok (line.Header c)) = None
stop_at breaks n (Some d) h (Ok (line.Header c)) = Some (unreadable n (Some d) h HeaderPlace)
stop_at breaks n None h (Ok (line.Event e)) = Some (unreadable n None h HeaderPlace)
stop_at breaks n (Some c) h (Ok (line.Event e)) =
    option_map (λ r. Refused n r (totals c h)) (breaks c h e)

-- the verdict where the line is not good that comes after these, which are
unfoldable pub stop_after : Judging → List (List ℕ) → List ℕ → Option Verdict
stop_after judging before l =
    stop_at judging.breaks (length before + 1) (header_in judging.says before)
    (history_of (events_in judging.says before)) (said judging.says (length before) l)

-- the verdict at the first of the lines that is not good, where those before them are
abbrev pub first_stop : Judging → List (List ℕ) → List (List ℕ) → Option Verdict
first_stop judging before [] = None
first_stop judging before (l ∷ ls) =
    option_or (stop_after judging before l) (first_stop judging (before ++ l ∷ []) ls)

-- each of the lines is good
abbrev pub AreGood : Judging → List (List ℕ) → Type 0
AreGood judging ls = first_stop judging [] ls ≡ None

-- one of the lines is not good, so that they have their verdict, whatever follows
abbrev pub AreDecided : Judging → List (List ℕ) → Type 0
AreDecided judging ls = IsSome (first_stop judging [] ls)

-- ---- the verdict

-- the number of a line counted from one line earlier: one more than it is, or 1 where it is none
-- and this line is one
abbrev pub line_behind : Bool → ℕ → ℕ
line_behind here n = if nat_lt 0 n then n + 1 else (if here then 1 else 0)

-- the number of the last line that says an event; 0 where none does
abbrev pub last_event_line : Reading → List (List ℕ) → ℕ
last_event_line reading [] = 0
last_event_line reading (l ∷ ls) =
    line_behind (is_some (event_said (reading l))) (last_event_line reading ls)

-- the verdict where each line is good, line n would be the next and the last event is on a line
-- before: a loss may be owed (V17)
abbrev pub end_at : ℕ → ℕ → Option Settings → List Event → Verdict
end_at n last None h = Unreadable n HeaderPlace None
end_at n last (Some c) h =
    if is_some_packet (owed c h) then Refused last OwedAtEnd (totals c h) else Accepted (totals c h)

abbrev pub end_of : Reading → List (List ℕ) → Verdict
end_of reading ls =
    end_at (length ls + 1) (last_event_line reading ls) (header_in reading ls)
    (history_of (events_in reading ls))

-- what is said of lines
unfoldable pub verdict_of : Judging → List (List ℕ) → Verdict
verdict_of judging ls = unwrap_or (first_stop judging [] ls) (end_of judging.says ls)

-- what is said of bytes
abbrev pub verdict : Judging → List ℕ → Verdict
verdict judging bytes = verdict_of judging (lines bytes)

-- a line that an LF ended is not good, or too many bytes stand after the last LF: no byte that
-- follows changes the verdict
abbrev pub IsFixed : Judging → List ℕ → Type 0
IsFixed judging bytes =
    AreDecided judging (ended_lines bytes) ⊎ (line_limit < length (unended bytes))

-- ---- accepted traces

abbrev pub IsWithinLimit : List ℕ → Type 0
IsWithinLimit l = length l ≤ line_limit

abbrev pub is_saying : Result Line Fault → Bool
is_saying (Ok line.Blank) = false
is_saying _ = true

-- what the lines say that are not blank, in order
abbrev pub sayings : Reading → List (List ℕ) → List (Result Line Fault)
sayings reading ls = filter is_saying (map reading ls)

abbrev pub event_line : Event → Result Line Fault
event_line e = Ok (line.Event e)

-- what the lines of a trace say: a header, and then events
abbrev pub trace_of : Settings → List Event → List (Result Line Fault)
trace_of c events = Ok (line.Header c) ∷ map event_line events

-- what good lines say that are not blank: nothing, or a header and then events
abbrev pub opening : Option Settings → List Event → List (Result Line Fault)
opening None events = []
opening (Some c) events = trace_of c events

-- events that form a run under their header; none without a header
abbrev pub IsRunBy : Option Settings → List Event → Type 0
IsRunBy None events = events ≡ []
IsRunBy (Some c) events = IsRun c (history_of events)

-- the lines, within the limits of a trace, say a header and events that form a complete run, and
-- these are its totals
abbrev pub IsTraceOfRun : Reading → List (List ℕ) → Totals → Type 0
IsTraceOfRun reading ls t =
    (length ls ≤ max_lines) × AllByRecursion IsWithinLimit ls
    × (c : Settings) × (events : List Event) × (sayings reading ls ≡ trace_of c events)
    × IsRun c (history_of events) × IsComplete c (history_of events)
    × (t ≡ totals c (history_of events))
