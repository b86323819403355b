-- On what ground a verdict stands, in terms of what the lines say.
use Rattle.std.specs.Prelude.{◌≡◌, ◌≢◌, ℕ, ◌+◌, ◌⊎◌, ◌<◌, ◌≤◌, List, [], ◌∷◌, ◌++◌, length, Option}
use Rattle.std.specs.Prelude.{Some, None, option_map, Result, Ok, Err}
use Rattle.std.specs.List.{AllByRecursion}
use Rattle.qa_base.specs.declared.event.Event.{Event}
use Rattle.qa_format.specs.declared.fault.Fault.{Fault}
use Rattle.qa_format.specs.declared.fault.Fault.TheVariants.{HeaderPlace, LineTooLong, TooManyLines}
use Rattle.qa_format.specs.declared.line.Line.{Line}
use Rattle.qa_format.specs.declared.line.Line.TheVariants as line
use Rattle.qa_base.specs.declared.rule.Rule.{Rule}
use Rattle.qa_base.specs.declared.rule.Rule.TheVariants.{OwedAtEnd}
use Rattle.qa_base.specs.declared.totals.Totals.{Totals}
use Rattle.qa_format.specs.declared.verdict.Verdict.{Verdict}
use Rattle.qa_format.specs.declared.verdict.Verdict.TheVariants.{Accepted, Refused, Unreadable}
use Rattle.qa_base.specs.values.Limits.{max_lines}
use Rattle.qa_format.specs.format.Lines.{line_limit}
use Rattle.qa_base.specs.machine.Loss.{owed}
use Rattle.qa_base.specs.machine.Packets.{history_of}
use Rattle.qa_base.specs.machine.Rules.{first_broken}
use Rattle.qa_base.specs.values.Settings.{Settings}
use Rattle.qa_base.specs.machine.State.{totals}
use Rattle.qa_format.specs.verdicts.Verdict.{Reading, IsWithinLimit, IsTraceOfRun, IsRunBy}
use Rattle.qa_format.specs.verdicts.Verdict.{events_in, event_line, opening, sayings}

-- ---- good lines

-- the lines are good: within the limits of a trace, they say this header and these events alone,
-- which form a run
pub record AreGoodLines (reading : Reading) (ls : List (List ℕ)) (header : Option Settings)
    (events : List Event) : Type 0 where
  pub few : length ls ≤ max_lines
  pub short : AllByRecursion IsWithinLimit ls
  pub says : sayings reading ls ≡ opening header events
  pub run : IsRunBy header events

-- ---- refused at an event

-- behind good lines, line n says an event that breaks this rule first, and these are the totals
-- after those before it
pub record BreaksAt (reading : Reading) (ls : List (List ℕ)) (n : ℕ) (r : Rule)
    (t : Totals) : Type 0 where
  pub before : List (List ℕ)
  pub here : List ℕ
  pub behind : List (List ℕ)
  pub header : Settings
  pub events : List Event
  pub event : Event
  pub stands : ls ≡ before ++ here ∷ behind
  pub number : n ≡ length before + 1
  pub good : AreGoodLines reading before (Some header) events
  pub in_limits : (n ≤ max_lines) × IsWithinLimit here
  pub says : reading here ≡ event_line event
  pub breaks : first_broken header (history_of events) event ≡ Some r
  pub held : t ≡ totals header (history_of events)

-- ---- a line that cannot be read

-- a header behind another, or an event where no header came
abbrev pub IsOutOfPlace : Option Settings → Result Line Fault → Type 0
IsOutOfPlace None s = (e : Event) × (s ≡ event_line e)
IsOutOfPlace (Some d) s = (c : Settings) × (s ≡ Ok (line.Header c))

-- what is the matter with line n, which comes behind lines with this header: it is one too many, it
-- has too many bytes, it is read as this fault, or it is out of place
abbrev pub HasFault : Reading → ℕ → Option Settings → List ℕ → Fault → Type 0
HasFault reading n header l f =
    ((max_lines < n) × (f ≡ TooManyLines))
    ⊎ (((n ≤ max_lines) × (line_limit < length l) × (f ≡ LineTooLong))
    ⊎ (((n ≤ max_lines) × IsWithinLimit l × (reading l ≡ Err f))
    ⊎ ((n ≤ max_lines) × IsWithinLimit l × IsOutOfPlace header (reading l) × (f ≡ HeaderPlace))))

-- behind good lines, line n has this fault, and these are the totals after those before it, where
-- they have a header
pub record FailsAt (reading : Reading) (ls : List (List ℕ)) (n : ℕ) (f : Fault)
    (t : Option Totals) : Type 0 where
  pub before : List (List ℕ)
  pub here : List ℕ
  pub behind : List (List ℕ)
  pub header : Option Settings
  pub events : List Event
  pub stands : ls ≡ before ++ here ∷ behind
  pub number : n ≡ length before + 1
  pub good : AreGoodLines reading before header events
  pub fails : HasFault reading n header here f
  pub held : t ≡ option_map (λ c. totals c (history_of events)) header

-- ---- the end

-- all lines are good and something is owed, and line n says the last event
pub record OwesAtEnd (reading : Reading) (ls : List (List ℕ)) (n : ℕ) (r : Rule)
    (t : Totals) : Type 0 where
  pub before : List (List ℕ)
  pub here : List ℕ
  pub behind : List (List ℕ)
  pub header : Settings
  pub events : List Event
  pub event : Event
  pub good : AreGoodLines reading ls (Some header) events
  pub stands : ls ≡ before ++ here ∷ behind
  pub number : n ≡ length before + 1
  pub says : reading here ≡ event_line event
  pub last : events_in reading behind ≡ []
  pub owing : owed header (history_of events) ≢ []
  pub rule : r ≡ OwedAtEnd
  pub held : t ≡ totals header (history_of events)

-- no line says anything: a header is missing, one line behind them
pub record SaysNothing (reading : Reading) (ls : List (List ℕ)) (n : ℕ) (f : Fault)
    (t : Option Totals) : Type 0 where
  pub good : AreGoodLines reading ls None []
  pub number : n ≡ length ls + 1
  pub fault : f ≡ HeaderPlace
  pub held : t ≡ None

-- ---- any verdict

-- the ground of a verdict
abbrev pub IsGround : Reading → List (List ℕ) → Verdict → Type 0
IsGround reading ls (Accepted t) = IsTraceOfRun reading ls t
IsGround reading ls (Refused n r t) = BreaksAt reading ls n r t ⊎ OwesAtEnd reading ls n r t
IsGround reading ls (Unreadable n f t) = FailsAt reading ls n f t ⊎ SaysNothing reading ls n f t
