use Rattle.std.proofs.Common.{◌≡◌, length}
use Rattle.std.specs.List.{list_all}
use Rattle.json.specs.Json.{Items}
use Rattle.json.specs.Find.{InItems}
use Rattle.qa_qlog.specs.Frames.{listed}
use Rattle.qa_qlog.specs.Says.{is_object}
use Rattle.qa_qlog.proofs.frames.are_objects.Given as goal

abbrev pub invariant-loop-item : goal.invariant-loop-item
invariant-loop-item l =
    (js : Items) → InItems l.fn.items js → (rest : Items) × InItems l.items rest
    × (list_all is_object (listed rest) ≡ list_all is_object (listed js))

abbrev pub decreases-loop-item : goal.decreases-loop-item
decreases-loop-item l = length l.items
