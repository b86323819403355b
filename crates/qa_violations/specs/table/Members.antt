-- A row of the table as members of a JSON object.
use Rattle.std.specs.Prelude.{ℕ, codes, List, [], ◌++◌, Option, Some, None}
use Rattle.json.specs.Token.{Token}
use Rattle.qa_base.specs.declared.rule.Rule.{Rule}
use Rattle.qa_base.specs.declared.space.TimeUnit.{TimeUnit}
use Rattle.qa_explain.specs.members.Object.{amount_at, number_at}
use Rattle.qa_violations.specs.declared.table.row.Row.{Row}
use Rattle.qa_violations.specs.table.Texts as texts

-- how many there are, and where
unfoldable pub counts : Row → List Token
counts row =
    number_at (codes "count") row.count ++ number_at (codes "first") row.first
    ++ number_at (codes "last") row.last

-- by how much at most, where it is known
abbrev pub greatest_at : TimeUnit → Rule → Option ℕ → List Token
greatest_at u r None = []
greatest_at u r (Some amount) = amount_at (codes "greatest") (texts.unit_of u r) amount
