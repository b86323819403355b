-- A row behind one more finding.
use Rattle.std.specs.Prelude.{ℕ, ◌+◌, ◌-◌, ◌^◌, ◌==◌, min, List, map, if◌then◌else◌}
use Rattle.qa_violations.specs.declared.table.finding.Finding.{Finding}
use Rattle.qa_violations.specs.declared.table.row.Row.{Row}
use Rattle.qa_violations.specs.table.Table.{greater, is_found}

-- one more, up to the most that 64 bits hold
abbrev pub one_more : ℕ → ℕ
one_more count = min (count + 1) (2 ^ 64 - 1)

-- with a finding of its rule
abbrev pub grown : Row → Finding → Row
grown row f =
    record {
      rule = row.rule;
      count = one_more row.count;
      first = if row.count == 0 then f.line else row.first;
      last = f.line;
      greatest = greater row.greatest f.amount;
    }

abbrev pub after : Finding → Row → Row
after f row = if is_found row.rule f then grown row f else row

abbrev pub all_after : Finding → List Row → List Row
all_after f rows = map (after f) rows
