use Rattle.std.proofs.Common.{◌≡◌, ◌++◌, length, map, string_bytes}
use Rattle.json.specs.Json.{Items}
use Rattle.json.specs.Find.{InItems}
use Rattle.qa_qlog.specs.Heads.{names}
use Rattle.qa_qlog.proofs.fields.Fields.of.Given as goal

abbrev pub invariant-loop-item : goal.invariant-loop-item
invariant-loop-item l =
    (js : Items) → InItems l.fn.items js → (rest : Items) × InItems l.items rest × (map string_bytes l.names.items ++ names rest ≡ names js)

abbrev pub decreases-loop-item : goal.decreases-loop-item
decreases-loop-item l = length l.items
