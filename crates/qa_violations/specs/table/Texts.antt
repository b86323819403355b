-- The text of the table.
use Rattle.std.specs.Prelude.{ℕ, ◌==◌, codes, decimal, length, List, [], ◌∷◌, ◌++◌, Option, Some}
use Rattle.std.specs.Prelude.{None, if◌then◌else◌}
use Rattle.qa_base.specs.declared.rule.Rule.{Rule}
use Rattle.qa_base.specs.declared.space.TimeUnit.{TimeUnit}
use Rattle.qa_base.specs.values.Names.{rule_text, unit_name}
use Rattle.qa_explain.specs.text.Values.{is_in_bytes}
use Rattle.qa_violations.specs.table.Table.{counted, table}
use Rattle.qa_violations.specs.declared.table.finding.Finding.{Finding}
use Rattle.qa_violations.specs.declared.table.row.Row.{Row}
use Rattle.qa_explain.specs.text.Pieces.{named, numbered}

-- ---- a row

-- how often, and where
unfoldable pub once_text : ℕ → List ℕ
once_text line = numbered (codes ": once, line ") line

unfoldable pub often_text : ℕ → ℕ → ℕ → List ℕ
often_text count first last =
    numbered (codes ": ") count ++ numbered (codes " times, lines ") first
    ++ numbered (codes " to ") last

abbrev pub where_text : Row → List ℕ
where_text row =
    if row.count == 1 then once_text row.first else often_text row.count row.first row.last

abbrev pub unit_of : TimeUnit → Rule → List ℕ
unit_of unit r = if is_in_bytes r then codes "bytes" else unit_name unit

abbrev pub by_words : ℕ → List ℕ
by_words count = if count == 1 then codes ", by " else codes ", by at most "

unfoldable pub by_text : ℕ → ℕ → List ℕ → List ℕ
by_text count amount unit = numbered (by_words count) amount ++ named (codes " ") unit

-- by how much, where it is known
abbrev pub amount_text : TimeUnit → Row → Option ℕ → List ℕ
amount_text unit row None = []
amount_text unit row (Some amount) = by_text row.count amount (unit_of unit row.rule)

unfoldable pub rule_part : Rule → List ℕ
rule_part r = named (codes "  ") (rule_text r)

unfoldable pub row_text : TimeUnit → Row → List ℕ
row_text unit row =
    rule_part row.rule ++ where_text row ++ amount_text unit row row.greatest ++ codes "\n"

-- ---- the table

abbrev pub rows_text : TimeUnit → List Row → List ℕ
rows_text unit [] = []
rows_text unit (row ∷ rows) = row_text unit row ++ rows_text unit rows

abbrev pub times_text : ℕ → List ℕ
times_text count = if count == 1 then codes "once" else decimal count ++ codes " times"

-- how many violations there were, in how many events
unfoldable pub head_text : ℕ → ℕ → List ℕ
head_text count events =
    codes ": departs " ++ times_text count ++ numbered (codes " in ") events ++ codes " events\n"

-- what stands behind the name of the trace; nothing where there is no finding
abbrev pub table_text : TimeUnit → ℕ → List Finding → List ℕ
table_text unit events [] = []
table_text unit events (f ∷ fs) =
    head_text (counted (length (f ∷ fs))) events ++ rows_text unit (table (f ∷ fs))
