use Rattle.std.proofs.Common.{◌≡◌, length}
use Rattle.json.specs.Json.{Members}
use Rattle.json.specs.Find.{InMembers}
use Rattle.qa_qlog.specs.Metrics.{are_all}
use Rattle.qa_qlog.proofs.metrics.are_all.Given as goal

abbrev pub invariant-loop-name : goal.invariant-loop-name
invariant-loop-name l =
    (ms : Members) → InMembers l.fn.members ms → (rest : Members) × InMembers l.members rest
    × (are_all l.key rest ≡ are_all l.key ms)

abbrev pub decreases-loop-name : goal.decreases-loop-name
decreases-loop-name l = length l.members
