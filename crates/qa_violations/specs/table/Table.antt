-- The table of violations: a row for each kind of them.
use Rattle.std.specs.Prelude.{◌≡◌, ℕ, nat_le, nat_lt, max, min, ◌==◌, ◌&&◌, ◌-◌, ◌^◌, Bool, true}
use Rattle.std.specs.Prelude.{false, length, map, filter, reverse, List, [], ◌∷◌, Option, Some}
use Rattle.std.specs.Prelude.{None}
use Rattle.std.specs.List.{list_any}
use Rattle.qa_base.specs.declared.rule.Field.{Field}
use Rattle.qa_base.specs.declared.rule.Field.TheVariants as field
use Rattle.qa_base.specs.declared.rule.Rule.{Rule}
use Rattle.qa_base.specs.declared.rule.Rule.TheVariants as rule
use Rattle.qa_base.specs.values.Names.{rule_number}
use Rattle.qa_violations.specs.declared.table.finding.Finding.{Finding}
use Rattle.qa_violations.specs.declared.table.row.Row.{Row}
use Rattle.qa_violations.specs.declared.table.table.Table.{Table}

-- ---- kinds

abbrev pub is_field : Field → Field → Bool
is_field field.Window field.Window = true
is_field field.Ssthresh field.Ssthresh = true
is_field field.BytesInFlight field.BytesInFlight = true
is_field field.LatestRtt field.LatestRtt = true
is_field field.MinRtt field.MinRtt = true
is_field field.SmoothedRtt field.SmoothedRtt = true
is_field field.Rttvar field.Rttvar = true
is_field _ _ = false

-- the two are one kind: the same rule, and for a metric the same value
abbrev pub is_kind : Rule → Rule → Bool
is_kind (rule.Metric f) (rule.Metric g) = is_field f g
is_kind r s = rule_number r == rule_number s

-- the sender rules, in their order
abbrev pub kinds : List Rule
kinds =
    rule.PastWindow
    ∷ rule.PastProbe
    ∷ rule.PastRecovery
    ∷ rule.TimerEarly
    ∷ rule.ProbeOwed
    ∷ rule.Metric field.Window
    ∷ rule.Metric field.Ssthresh
    ∷ rule.Metric field.BytesInFlight
    ∷ rule.Metric field.LatestRtt
    ∷ rule.Metric field.MinRtt
    ∷ rule.Metric field.SmoothedRtt
    ∷ rule.Metric field.Rttvar
    ∷ rule.TimerLate
    ∷ rule.CollapseMissing
    ∷ []

-- ---- a row

abbrev pub is_found : Rule → Finding → Bool
is_found r f = is_kind r f.rule

-- the line of the first finding, in the order of the lines
abbrev pub first_line : List Finding → ℕ
first_line [] = 0
first_line (f ∷ fs) = f.line

abbrev pub last_line : List Finding → ℕ
last_line fs = first_line (reverse fs)

-- the greater of two amounts; the other where one is none
abbrev pub greater : Option ℕ → Option ℕ → Option ℕ
greater None b = b
greater (Some a) None = Some a
greater (Some a) (Some b) = Some (max a b)

-- the greatest amount of the findings that have one
abbrev pub greatest : List Finding → Option ℕ
greatest [] = None
greatest (f ∷ fs) = greater f.amount (greatest fs)

-- a count stays at the most that 64 bits hold
abbrev pub counted : ℕ → ℕ
counted n = min n (2 ^ 64 - 1)

-- how many findings these are, where, and by how much at most
abbrev pub row_with : Rule → List Finding → Row
row_with r fs =
    record {
      rule = r;
      count = counted (length fs);
      first = first_line fs;
      last = last_line fs;
      greatest = greatest fs;
    }

-- the row of a rule: of the findings of its kind
abbrev pub row_of : Rule → List Finding → Row
row_of r fs = row_with r (filter (is_found r) fs)

-- ---- the table

-- there are none
abbrev pub is_nil : {A : Type 0} → List A → Bool
is_nil [] = true
is_nil (x ∷ xs) = false

abbrev pub has_findings : Row → Bool
has_findings row = nat_lt 0 row.count

-- the rows of all kinds
unfoldable pub rows_of : List Finding → List Row
rows_of fs = map (λ r. row_of r fs) kinds

-- the rows of the kinds that were found
abbrev pub table : List Finding → List Row
table fs = filter has_findings (rows_of fs)

-- the row is of this kind, of which so many were found or more
abbrev pub is_row_of : ℕ → Rule → Row → Bool
is_row_of many r row = is_kind row.rule r && nat_le many row.count

-- so many violations of this kind or more are among the findings
abbrev pub are_known : ℕ → Rule → List Finding → Bool
are_known many r fs = list_any (is_row_of many r) (rows_of fs)

-- ---- what is kept of it

-- the table was told of these findings, in this order
abbrev pub Holds : Table → List Finding → Type 0
Holds t fs = (t.noted ≡ counted (length fs)) × (t.rows ≡ rows_of fs)
