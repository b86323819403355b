use Rattle.std.proofs.Common.{◌≡◌, length, map}
use Rattle.json.specs.Json.{Items}
use Rattle.json.specs.Find.{InItems}
use Rattle.qa_qlog.specs.Frames.{content, joined, listed, type_of}
use Rattle.qa_qlog.proofs.frames.Content.of.Given as goal

abbrev pub invariant-loop-frame : goal.invariant-loop-frame
invariant-loop-frame l =
    (js : Items) → InItems l.fn.items js → (rest : Items) × InItems l.items rest
    × (joined l.content (content (map type_of (listed rest))) ≡ content (map type_of (listed js)))

abbrev pub decreases-loop-frame : goal.decreases-loop-frame
decreases-loop-frame l = length l.items
