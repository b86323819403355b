-- What is kept of violations while a trace is judged.
use Rattle.std.specs.Prelude.{◌≡◌, ℕ, length, map, List, [], ◌∷◌, ◌++◌}
use Rattle.qa_violations.specs.all.All.{firsts}
use Rattle.qa_violations.specs.all.Violated.{Violated, all_violated, violated, findings, history_in}
use Rattle.qa_violations.specs.all.Violated.{lines_before, unit_of}
use Rattle.qa_violations.specs.all.Objects.{first_members, named}
use Rattle.qa_violations.specs.all.Tolerating.{latest_of, unviolated}
use Rattle.qa_violations.specs.allowed.Keeping.{CoversWhere}
use Rattle.qa_base.specs.declared.event.Event.{Event}
use Rattle.qa_base.specs.values.Settings.{Settings}
use Rattle.qa_violations.specs.declared.all.keeping.Kept.{Kept}
use Rattle.qa_violations.specs.declared.all.listing.Listed.{Listed}
use Rattle.qa_violations.specs.declared.all.unviolated.Unviolated.{Unviolated}
use Rattle.qa_violations.specs.around.Keeping as rows
use Rattle.qa_violations.specs.around.Rows.{objects, rows as all_rows}
use Rattle.qa_violations.specs.declared.around.row.Row.{Row}
use Rattle.qa_violations.specs.table.Table.{Holds}
pub use Rattle.qa_violations.specs.table.Table.{is_nil}
use Rattle.qa_format.specs.declared.line.Line.{Line}
use Rattle.qa_format.specs.declared.line.Line.TheVariants as line
use Rattle.qa_format.specs.format.Reading.{reading}
use Rattle.qa_format.specs.verdicts.Verdict.{header_in}

-- ---- for a text

-- these violations were noted under this name, with up to so many rows before each that is told of
abbrev pub Keeps : ℕ → List ℕ → Kept → List Violated → Type 0
Keeps count name kept ds =
    (kept.firsts.items ≡ firsts count name ds) × Holds kept.table (findings ds)

-- the last of these rows are kept, up to so many
abbrev pub KeepsRows : ℕ → Kept → List Row → Type 0
KeepsRows count kept rs = (kept.latest.count ≡ count) × rows.Keeps kept.latest rs

-- the violations on these lines and the last of their rows, and the unit and the events of the
-- trace so far
abbrev pub Covers : List ℕ → Kept → Kept → List (List ℕ) → Type 0
Covers name begun kept ls =
    KeepsRows begun.latest.count kept (all_rows ls)
    × Keeps begun.latest.count name kept (all_violated ls)
    × (kept.unit ≡ unit_of (header_in reading ls)) × (kept.events ≡ length (history_in ls))

-- ---- for an object

-- these violations were listed
abbrev pub Lists : Listed → List Violated → Type 0
Lists listed ds =
    (listed.first.items ≡ first_members ds) × Holds listed.table (findings ds)
    × (listed.named.items ≡ named (findings ds))

-- the last of these rows are kept, up to so many
abbrev pub KeepsObjects : ℕ → Listed → List (List ℕ) → Type 0
KeepsObjects count listed os = (listed.latest.count ≡ count) × rows.KeepsObjects listed.latest os

-- the violations on these lines and the last rows before the first, and the unit and the events of
-- the trace so far
abbrev pub CoversListed : List ℕ → Listed → Listed → List (List ℕ) → Type 0
CoversListed name begun listed ls =
    KeepsObjects begun.latest.count listed (objects (lines_before (all_violated ls) ls))
    × Lists listed (all_violated ls)
    × (listed.unit ≡ unit_of (header_in reading ls)) × (listed.events ≡ length (history_in ls))

-- ---- what was allowed

-- it was shown these lines, and was told of what was allowed at events that violate nothing
abbrev pub CoversUnviolated : List ℕ → Unviolated → Unviolated → List (List ℕ) → Type 0
CoversUnviolated name begun now ls = CoversWhere unviolated now.allowances ls

-- ---- one line

-- what a line says violates this, behind those before, whose number is n and behind which the trace
-- has this header and this history
abbrev pub violated_by : ℕ → List (List ℕ) → List ℕ → Line → Settings → List Event → List Violated
violated_by n before l (line.Event e) c h = map (violated c.unit n before l e) (latest_of c h)
violated_by n before l said c h = []

-- these rows with those of one more line behind them; without, where there are violations
abbrev pub kept_behind : List Violated → List (List ℕ) → List (List ℕ) → List (List ℕ)
kept_behind [] os more = os ++ more
kept_behind (d ∷ ds) os more = os
