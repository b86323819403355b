use Rattle.std.proofs.Common.{◌≡◌, map}
use Rattle.std.specs.Prelude.{string_bytes}
use Rattle.serde_json.specs.View.{members_view}
use Rattle.qa_why.specs.suggest.StandsFor.{keys, stands_for}
use Rattle.qa_why.proofs.suggest.missing.stands_for.Given as goal

-- what is left decides
abbrev pub invariant-loop-key : goal.invariant-loop-key
invariant-loop-key l =
    stands_for l.version l.kind l.missing (map string_bytes l.key-iterator)
    ≡ stands_for l.version l.kind l.missing (keys (members_view l.members.entries))
