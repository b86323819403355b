-- The lines that a checker stands for.
use Rattle.std.specs.Prelude.{◌≡◌, ◌++◌, ◌+◌, ℕ, Bool, false, List, [], ◌∷◌, length, Option, Some}
use Rattle.std.specs.Prelude.{None, Ok, IsSome}
use Rattle.qa_base.specs.declared.event.Event.{Event}
use Rattle.qa_format.specs.declared.line.Line.{Line}
use Rattle.qa_format.specs.declared.line.Line.TheVariants as line
use Rattle.qa_format.specs.declared.verdict.Verdict.{Verdict}
use Rattle.qa_format.specs.format.Lines.{IsShortLine}
use Rattle.qa_format.specs.format.Reading.{reading}
use Rattle.qa_base.specs.machine.Packets.{history_of}
use Rattle.qa_base.specs.machine.Rules.{first_broken}
use Rattle.qa_base.specs.values.Settings.{Settings}
use Rattle.qa_format.specs.verdicts.Verdict.{Breaking, Judging, stop_at, header_in, events_in}
use Rattle.qa_format.specs.verdicts.Verdict.{last_event_line, verdict_of, AreGood, AreDecided}

-- ---- what a checker holds

-- a ledger from the header on, how many lines there are, which is the last with an event (0: none
-- is), the verdict once it is fixed, and whether it ran out of memory
pub record Held (L : Type 0) : Type 0 where
  pub ledger : Option L
  pub lines : ℕ
  pub last_event : ℕ
  pub verdict : Option Verdict
  pub failed : Bool

-- a judge of events: when it stands for a history under a header, and by which rule an event ends
-- the trace after them
pub record Judges (L : Type 0) : Type 1 where
  pub stands : L → Settings → List Event → Type 0
  pub breaks : Breaking

-- a ledger that stands so: by it an event ends the trace that breaks a rule
abbrev pub of_ledger : {L : Type 0} → (L → Settings → List Event → Type 0) → Judges L
of_ledger stands = record { stands = stands; breaks = first_broken }

-- lines are read as the format has it, and events are judged so
abbrev pub by : {L : Type 0} → Judges L → Judging
by judges = record { says = reading; breaks = judges.breaks }

-- ---- what it stands for

-- the ledger stands for this header and this history; without one there is neither
abbrev pub HoldsRun : {L : Type 0} → Judges L → Option L → Option Settings → List Event → Type 0
HoldsRun judges None header h = (header ≡ None) × (h ≡ [])
HoldsRun judges (Some l) header h = (c : Settings) × (header ≡ Some c) × judges.stands l c h

-- all of the lines are good, and this is held of them
abbrev pub Open : {L : Type 0} → Judges L → Option L → ℕ → ℕ → List (List ℕ) → Type 0
Open judges ledger count last ls =
    AreGood (by judges) ls
    × HoldsRun judges ledger (header_in reading ls) (history_of (events_in reading ls))
    × (count ≡ length ls) × (last ≡ last_event_line reading ls)

-- one of the lines is not good, and this is their verdict
abbrev pub Decided : {L : Type 0} → Judges L → Verdict → List (List ℕ) → Type 0
Decided judges v ls = AreDecided (by judges) ls × (v ≡ verdict_of (by judges) ls)

abbrev pub StandsBy : {L : Type 0} → Judges L → Option Verdict → Option L → ℕ → ℕ → List (List ℕ)
    → Type 0
StandsBy judges None ledger count last ls = Open judges ledger count last ls
StandsBy judges (Some v) ledger count last ls = Decided judges v ls

-- a checker that holds this stands for these lines
abbrev pub StandsFor : {L : Type 0} → Judges L → Held L → List (List ℕ) → Type 0
StandsFor judges held ls = StandsBy judges held.verdict held.ledger held.lines held.last_event ls

-- ---- what one more line does

-- the checker stands for the line too, and all are good
abbrev pub AddsGood : {L : Type 0} → Judges L → Held L → Held L → List ℕ → Type 0
AddsGood judges old new l =
    (new.failed ≡ false)
    × ((ls : List (List ℕ)) → StandsFor judges old ls
    → StandsFor judges new (ls ++ l ∷ []) × AreGood (by judges) (ls ++ l ∷ []))

-- the checker stands for the line too, and one is not good
abbrev pub AddsBad : {L : Type 0} → Judges L → Held L → Held L → List ℕ → Type 0
AddsBad judges old new l =
    (new.failed ≡ false)
    × ((ls : List (List ℕ)) → StandsFor judges old ls
    → StandsFor judges new (ls ++ l ∷ []) × AreDecided (by judges) (ls ++ l ∷ []))

-- ---- what a line says

-- the bytes are a line that says this
abbrev pub IsLineOf : Line → List ℕ → Type 0
IsLineOf x l = IsShortLine l × (reading l ≡ Ok x)

abbrev pub header_after : Option Settings → Line → Option Settings
header_after old (line.Header c) = Some c
header_after old _ = old

abbrev pub history_after : List Event → Line → List Event
history_after h (line.Event e) = e ∷ h
history_after h _ = h

-- the line of the last event, where line n says this behind others
abbrev pub last_after : ℕ → ℕ → Line → ℕ
last_after n last (line.Event e) = n
last_after n last _ = last

-- the line is good that says this, and it was taken in
pub record TakesIn {L : Type 0} (judges : Judges L) (old new : Held L) (l : Line) : Type 0 where
  pub undecided : new.verdict ≡ None
  pub count : new.lines ≡ old.lines + 1
  pub last : new.last_event ≡ last_after (old.lines + 1) old.last_event l
  pub runs : (c : Option Settings) (h : List Event) → HoldsRun judges old.ledger c h
      → (stop_at judges.breaks (old.lines + 1) c h (Ok l) ≡ None)
      × HoldsRun judges new.ledger (header_after c l) (history_after h l)

-- the line is not good that says this, and the verdict is that of it
pub record StopsAt {L : Type 0} (judges : Judges L) (old new : Held L) (l : Line) : Type 0 where
  pub decided : IsSome new.verdict
  pub verdict : (c : Option Settings) (h : List Event) → HoldsRun judges old.ledger c h
      → new.verdict ≡ stop_at judges.breaks (old.lines + 1) c h (Ok l)
