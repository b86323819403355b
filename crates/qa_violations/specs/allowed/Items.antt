-- What the header allowed on good lines, item by item.
use Rattle.std.specs.Prelude.{ℕ, List, [], map, Option, Some, None, option_map}
use Rattle.qa_base.specs.declared.header.Options.{Options}
use Rattle.qa_base.specs.declared.space.TimeUnit.{TimeUnit}
use Rattle.qa_base.specs.values.Settings.{Settings}
use Rattle.qa_check.specs.declared.auditing.Outcome.{Outcome}
use Rattle.qa_check.specs.declared.auditing.Outcome.TheVariants as outcomes
use Rattle.qa_format.specs.format.Reading.{reading}
use Rattle.qa_format.specs.verdicts.Verdict.{header_in}
use Rattle.qa_violations.specs.allowed.Choices.{key_of, limit_of}
use Rattle.qa_violations.specs.allowed.Lines.{Counting, all_allowed}
use Rattle.qa_violations.specs.allowed.Members.{measured_limit}
use Rattle.qa_violations.specs.declared.allowed.items.Allowance.{Allowance}
use Rattle.qa_violations.specs.declared.table.finding.Finding.{Finding}
use Rattle.qa_violations.specs.declared.table.row.Row.{Row}
use Rattle.qa_violations.specs.table.Table.{table}

-- a row of what was allowed, with the key that allows it and how much that allows
abbrev pub item_of : TimeUnit → Options → Row → Allowance
item_of u o row =
    record {
      row = row;
      key = key_of row.rule;
      limit = option_map (measured_limit u row.rule) (limit_of o row.rule);
    }

-- behind this header, where this was allowed; nothing before a header
abbrev pub allowances_of : Option Settings → List Finding → List Allowance
allowances_of None fs = []
allowances_of (Some c) fs = map (item_of c.unit c.options) (table fs)

-- of good lines, of whose events these count
abbrev pub allowances : Counting → List (List ℕ) → List Allowance
allowances counts ls = allowances_of (header_in reading ls) (all_allowed counts ls)

-- a verdict rests on it where it is accepted
abbrev pub allowances_behind : Counting → Outcome → List (List ℕ) → List Allowance
allowances_behind counts outcomes.Accepted ls = allowances counts ls
allowances_behind counts outcome ls = []
