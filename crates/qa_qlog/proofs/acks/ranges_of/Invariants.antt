use Rattle.std.proofs.Common.{◌≡◌, length}
use Rattle.json.specs.Json.{Items}
use Rattle.json.specs.Find.{InItems}
use Rattle.qa_qlog.specs.Acks.{ranges_of}
use Rattle.qa_qlog.specs.Frames.{listed}
use Rattle.qa_qlog.proofs.Spread.{before}
use Rattle.qa_qlog.proofs.acks.ranges_of.Given as goal

abbrev pub invariant-loop-item : goal.invariant-loop-item
invariant-loop-item l =
    (js : Items) → InItems l.fn.items js → (rest : Items) × InItems l.items rest
    × (before l.ranges (ranges_of (listed rest)) ≡ ranges_of (listed js))

abbrev pub decreases-loop-item : goal.decreases-loop-item
decreases-loop-item l = length l.items
