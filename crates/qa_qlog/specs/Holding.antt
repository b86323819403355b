-- What the records that were returned are of the bytes of a log.
use Rattle.std.specs.Prelude.{◌≡◌, ◌++◌, ℕ, List}
use Rattle.qa_qlog.specs.Cuts.{Cut, Cuts, Uncut, cuts, unread}
use Rattle.qa_qlog.specs.Cutting.{left}

abbrev pub behind_those : List Cut → Cuts → Cuts
behind_those taken cuts = (taken ++ cuts.0, cuts.1)

-- these records were returned of a log of which these bytes were fed: whatever follows, the cuts of
-- the log are these and those that are left
abbrev pub Holds : List Cut → Uncut → List ℕ → Type 0
Holds taken rest log =
    (more : List ℕ) → cuts unread (log ++ more) ≡ behind_those taken (left rest more)

abbrev pub fed : Uncut → List ℕ → Uncut
fed rest part = record rest { bytes = rest.bytes ++ part }
