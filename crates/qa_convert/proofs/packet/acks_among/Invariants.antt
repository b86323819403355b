use Rattle.std.proofs.Common.{◌++◌, List, length}
use Rattle.json.specs.Json.{Items}
use Rattle.json.specs.Find.{InItems}
use Rattle.qa_qlog.specs.Frames.{listed}
use Rattle.qa_qlog.specs.declared.keys.NoValue.{NoValue}
use Rattle.qa_convert.specs.Faults.{IsFaultAmong}
use Rattle.qa_convert.specs.Packets.{AreAcksOf}
use Rattle.qa_convert.specs.declared.packet.LoggedAck.{LoggedAck}
use Rattle.qa_convert.proofs.packet.acks_among.Given as goal

abbrev pub invariant-loop-frame : goal.invariant-loop-frame
invariant-loop-frame l =
    (js : Items) → InItems l.fn.frames js → (rest : Items) × InItems l.frames rest
    × ((kept : List LoggedAck) → AreAcksOf l.unit (listed rest) kept → AreAcksOf l.unit (listed js) (l.acks.items ++ kept))
    × ((v : NoValue) → IsFaultAmong l.unit (listed rest) v → IsFaultAmong l.unit (listed js) v)

abbrev pub decreases-loop-frame : goal.decreases-loop-frame
decreases-loop-frame l = length l.frames
