-- Where a rule comes from.
use Rattle.std.specs.Prelude.{codes, List, ◌++◌}
use Rattle.json.specs.Token.{Token}
use Rattle.qa_base.specs.declared.rule.Rule.{Rule}
use Rattle.qa_explain.specs.members.Object.{string_at}
use Rattle.qa_explain.specs.text.Sources.{requirement, section}

-- how strong the RFC is there, and its section
unfoldable pub source_members : Rule → List Token
source_members r =
    string_at (codes "requirement") (requirement r) ++ string_at (codes "section") (section r)
