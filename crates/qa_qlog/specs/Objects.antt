-- What it is to return an object of a text.
use Rattle.std.specs.Prelude.{◌≡◌, List, Option, Result, Ok, Err}
use Rattle.json.specs.Json.{Json}
use Rattle.json.specs.Find.{Finds}
use Rattle.json.specs.Token.{Token}
use Rattle.qa_qlog.specs.declared.heads.NoHead.{NoHead}

-- the value that is returned begins where this one is, and the fault is this one
abbrev pub GivesObject : Result (Option (List Token)) NoHead → Result (Option Json) NoHead → Type 0
GivesObject (Ok found) object = (o : Option Json) × (object ≡ Ok o) × Finds found o
GivesObject (Err fault) object = object ≡ Err fault
