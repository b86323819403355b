use Rattle.std.proofs.Common.{◌≡◌, ◌++◌, map}
use Rattle.std.specs.Prelude.{string_bytes}
use Rattle.serde_json.specs.View.{members_view}
use Rattle.qa_why.specs.suggest.StandsFor.{keys}
use Rattle.qa_why_command.specs.warnings.Strange.{strange}
use Rattle.qa_why_command.proofs.warnings.strange.strange_among.Given as goal

-- what was found, and behind it what is left
abbrev pub invariant-loop-key : goal.invariant-loop-key
invariant-loop-key l =
    map string_bytes l.found.items ++ strange l.version l.kind (map string_bytes l.key-iterator)
    ≡ strange l.version l.kind (keys (members_view l.members.entries))
