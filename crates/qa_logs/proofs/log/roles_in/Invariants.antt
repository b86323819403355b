use Rattle.std.proofs.Common.{◌≡◌, ◌++◌, length, map}
use Rattle.json.specs.Find.{BeginsWith, InItems}
use Rattle.json.specs.Json.{Items, Json}
use Rattle.qa_qlog.specs.Frames.{listed}
use Rattle.qa_logs.specs.Choosing.{role_of, roles_in}
use Rattle.qa_logs.proofs.log.roles_in.Given as goal

abbrev pub invariant-loop-trace : goal.invariant-loop-trace
invariant-loop-trace l =
    (j : Json) → BeginsWith l.document j → (rest : Items) × InItems l.traces rest
    × (l.roles.items ++ map (role_of j) (listed rest) ≡ roles_in j)

abbrev pub decreases-loop-trace : goal.decreases-loop-trace
decreases-loop-trace l = length l.traces
