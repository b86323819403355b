use Rattle.std.proofs.Common.{◌++◌, List, length}
use Rattle.json.specs.Json.{Items}
use Rattle.json.specs.Find.{InItems}
use Rattle.qa_qlog.specs.Frames.{listed}
use Rattle.qa_convert.specs.Faults.{IsLostAmong}
use Rattle.qa_convert.specs.Reading.{AreLosses}
use Rattle.qa_convert.specs.declared.event.Said.{Said}
use Rattle.qa_convert.specs.declared.packet.NoEvent.{NoEvent}
use Rattle.qa_convert.proofs.event.losses_among.Given as goal

abbrev pub invariant-loop-header : goal.invariant-loop-header
invariant-loop-header l =
    (js : Items) → InItems l.fn.headers js → (rest : Items) × InItems l.headers rest
    × ((more : List Said) → AreLosses (listed rest) more → AreLosses (listed js) (l.losses.items ++ more))
    × ((e : NoEvent) → IsLostAmong (listed rest) e → IsLostAmong (listed js) e)

abbrev pub decreases-loop-header : goal.decreases-loop-header
decreases-loop-header l = length l.headers
