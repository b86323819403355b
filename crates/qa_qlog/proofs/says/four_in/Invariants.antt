-- What holds while the members of an object are walked through for four names.
use Rattle.std.proofs.Common.{length}
use Rattle.json.specs.Json.{Members}
use Rattle.json.specs.Find.{InMembers, get_member}
use Rattle.qa_qlog.proofs.Latest.{Latest}
use Rattle.qa_qlog.proofs.says.four_in.Given as goal

abbrev pub invariant-loop-key : goal.invariant-loop-key
invariant-loop-key l =
    (ms : Members) → InMembers l.fn.members ms → (rest : Members) × InMembers l.members rest
    × Latest l.first (get_member l.first ms) rest l.at_first
    × Latest l.second (get_member l.second ms) rest l.at_second
    × Latest l.third (get_member l.third ms) rest l.at_third
    × Latest l.fourth (get_member l.fourth ms) rest l.at_fourth

abbrev pub decreases-loop-key : goal.decreases-loop-key
decreases-loop-key l = length l.members
