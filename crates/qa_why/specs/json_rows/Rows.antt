-- The row of a line: an object with its number, what it says, and the state of the machine behind
-- it.
use Rattle.std.specs.Prelude.{◌≡◌, ℕ, codes, decimal, List, [], ◌++◌, Option}
use Rattle.std.specs.Io.KnownBytes.{Appends}
use Rattle.qa_base.specs.declared.event.Event.{Event}
use Rattle.qa_base.specs.values.Settings.{Settings}
use Rattle.qa_format.specs.declared.line.Line.{Line}
use Rattle.qa_format.specs.declared.line.Line.TheVariants as line
use Rattle.qa_check.specs.Audit.{outcome_of}
use Rattle.qa_check.specs.declared.auditing.Outcome.{Outcome}
use Rattle.qa_format.specs.format.Reading.{reading}
use Rattle.qa_format.specs.format.Written.{written}
use Rattle.qa_format.specs.verdicts.Explain.{told}
use Rattle.qa_format.specs.verdicts.Verdict.{strict, verdict}
use Rattle.qa_why.specs.json_rows.State.{state_text}

-- ---- the pieces of the text

unfoldable pub numbered : ℕ → List ℕ
numbered n = codes "{\"line\":" ++ decimal n

unfoldable pub saying : List ℕ → List ℕ
saying said = codes ",\"event\":" ++ said

unfoldable pub leaving : List ℕ → List ℕ
leaving state = codes ",\"state\":" ++ state ++ codes "}"

-- the object of line n, of what it says and of the state behind it
unfoldable pub object_text : ℕ → List ℕ → List ℕ → List ℕ
object_text n said state = numbered n ++ saying said ++ leaving state

-- ---- the row

-- the object of line n, behind which the trace has this header and this history
abbrev pub object : ℕ → Line → Settings → List Event → List ℕ
object n l c h = object_text n (written l) (state_text c h)

-- its row
abbrev pub row : ℕ → Line → Settings → List Event → List ℕ
row n l c h = object n l c h ++ codes "\n"

-- the same; a blank line has none
abbrev pub row_of : ℕ → Line → Settings → List Event → List ℕ
row_of n line.Blank c h = []
row_of n (line.Header s) c h = row n (line.Header s) c h
row_of n (line.Event e) c h = row n (line.Event e) c h

-- ---- of bytes

-- the rows of the bytes were written, and the kind of their verdict is returned
abbrev pub WritesRows : Option (List ℕ) → Option (List ℕ) → Outcome → List ℕ → Type 0
WritesRows held held' outcome bytes =
    Appends held held' (told row_of (strict reading) bytes)
    × (outcome ≡ outcome_of (verdict (strict reading) bytes))
