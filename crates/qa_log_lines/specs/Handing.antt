-- How a reader of the trace of a log hands its lines on.
use Rattle.std.specs.Prelude.{◌≡◌, ◌⊎◌, ◌+◌, ◌++◌, ℕ, true, List, [], None, drop, length, min}
use Rattle.std.specs.Prelude.{take}
use Rattle.std.specs.List.{concat}
use Rattle.qa_logs.specs.Cutting.{Steps}
use Rattle.qa_logs.specs.Tracing.{Traced, shown}
use Rattle.qa_log_lines.specs.Reading.{GivesLines}
use Rattle.qa_log_lines.specs.declared.reader.TraceReader.{TraceReader}

-- what is left of the lines at a point of the trace
abbrev pub left : {F : Type 0} → TraceReader F → List ℕ
left r = drop r.passed (shown r.lines.0)

-- as many bytes of them were put into a buffer as it takes, and the rest is left
abbrev pub Gives : {F : Type 0} → TraceReader F → TraceReader F → List ℕ → List ℕ → ℕ → Type 0
Gives old new before after n =
    (n ≡ min (length (left old)) (length before))
    × (after ≡ take n (left old) ++ drop n before)
    × (new ≡ record old { passed = old.passed + n })

-- these bytes were read from this point of the trace on: the lines of each point that it went on
-- from, and the first bytes of those where it stands
abbrev pub HasRead : {F : Type 0} → Traced → List ℕ → TraceReader F → Type 0
HasRead start bytes r = (parts : List (List ℕ)) × Steps GivesLines start parts r.lines.0
    × (bytes ≡ concat parts ++ take r.passed (shown r.lines.0))

-- all lines were read, and no fault stopped it
abbrev pub IsAtEnd : {F : Type 0} → TraceReader F → Type 0
IsAtEnd r = (left r ≡ []) × (r.lines.1 ≡ true) × (r.stopped ≡ None)

-- a buffer of some bytes gets none only at the end
abbrev pub EndsThen : {F : Type 0} → TraceReader F → List ℕ → ℕ → Type 0
EndsThen new before n = n ≡ 0 → (length before ≡ 0) ⊎ IsAtEnd new
