-- The rows of a trace, behind violations too.
use Rattle.std.specs.Prelude.{◌≡◌, ℕ, List, Option}
use Rattle.std.specs.Io.KnownBytes.{Appends}
use Rattle.qa_violations.specs.all.All.{past_sender_rules}
use Rattle.qa_check.specs.Audit.{outcome_of}
use Rattle.qa_check.specs.declared.auditing.Outcome.{Outcome}
use Rattle.qa_format.specs.verdicts.Explain.{told}
use Rattle.qa_format.specs.verdicts.Verdict.{verdict}
use Rattle.qa_why.specs.json_rows.Rows.{row_of}

-- the row of each line that is admitted past violations was written, and the kind of how the trace
-- ends is returned
abbrev pub WritesAllRows : Option (List ℕ) → Option (List ℕ) → Outcome → List ℕ → Type 0
WritesAllRows held held' outcome bytes =
    Appends held held' (told row_of past_sender_rules bytes)
    × (outcome ≡ outcome_of (verdict past_sender_rules bytes))
