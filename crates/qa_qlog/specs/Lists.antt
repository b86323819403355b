-- What it is to return the items of a list.
use Rattle.std.specs.Prelude.{◌≡◌, List, [], Option, Some, None, Result, Ok, Err}
use Rattle.json.specs.Json.{Json, Items}
use Rattle.json.specs.Find.{InItems}
use Rattle.json.specs.Token.{Token}
use Rattle.qa_qlog.specs.declared.keys.NoValue.{NoValue}
use Rattle.qa_qlog.specs.Frames.{listed}

-- the list that is returned has these items, and the fault is this one
abbrev pub GivesItems : Result (Option (List Token)) NoValue → Result (List Json) NoValue → Type 0
GivesItems (Ok None) found = found ≡ Ok []
GivesItems (Ok (Some items)) found = (js : Items) × (found ≡ Ok (listed js)) × InItems items js
GivesItems (Err fault) found = found ≡ Err fault
