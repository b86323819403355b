-- What holds while the members of an object are walked through for one name.
use Rattle.std.proofs.Common.{length}
use Rattle.json.specs.Json.{Json, Members}
use Rattle.json.specs.Find.{BeginsWith, InMembers, get}
use Rattle.qa_qlog.proofs.Latest.{Latest}
use Rattle.qa_qlog.proofs.says.get.Given as goal

abbrev pub invariant-loop-key : goal.invariant-loop-key
invariant-loop-key l =
    (j : Json) → BeginsWith l.value j → (rest : Members) × InMembers l.members rest × Latest l.name (get l.name j) rest l.found

abbrev pub decreases-loop-key : goal.decreases-loop-key
decreases-loop-key l = length l.members
