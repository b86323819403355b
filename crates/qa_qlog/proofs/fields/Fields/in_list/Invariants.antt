use Rattle.std.proofs.Common.{◌≡◌, Option, drop, map, string_bytes}
use Rattle.json.specs.Json.{Json, Items}
use Rattle.json.specs.Find.{InItems, Finds, get_member, later_or}
use Rattle.qa_qlog.specs.Records.{zipped}
use Rattle.qa_qlog.proofs.fields.Fields.in_list.Given as goal

abbrev pub invariant-loop-name : goal.invariant-loop-name
invariant-loop-name l =
    (js : Items) → InItems l.fn.items js → (rest : Items) × (earlier : Option Json) × InItems l.items rest × Finds l.found earlier
    × (get_member l.key (zipped (map string_bytes l.name-items) js) ≡ later_or (get_member l.key (zipped (map string_bytes (drop l.name-index l.name-items)) rest)) earlier)
