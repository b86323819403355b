-- Where the records of a log stand in it.
use Rattle.std.specs.Prelude.{◌≡◌, ◌≤◌, ℕ, List, length, take, drop}
use Rattle.std.specs.List.{AllByRecursion}
use Rattle.qa_qlog.specs.Cuts.{Cut, cuts_of}
use Rattle.qa_qlog.specs.Outer.{last}

-- the bytes of a record are those of the log at its place
abbrev pub StandsAt : List ℕ → Cut → Type 0
StandsAt log cut = take (length cut.bytes) (drop cut.place log) ≡ cut.bytes

-- each record of a log stands at its place; no log has as many bytes as a place can say
abbrev pub StandAtTheirPlaces : Type 0
StandAtTheirPlaces =
    (log : List ℕ) → length log ≤ last → AllByRecursion (StandsAt log) (cuts_of log).0
