-- Which line a visitor is shown.
use Rattle.std.specs.Prelude.{◌≡◌, ◌+◌, ◌++◌, [], ◌∷◌, ℕ, List, length, Option}
use Rattle.qa_base.specs.machine.Packets.{history_of}
use Rattle.qa_format.specs.format.Reading.{reading}
use Rattle.qa_format.specs.verdicts.Verdict.{AreGood, events_in, header_in}
use Rattle.qa_check.specs.Standing.{HoldsRun, Judges, by}

-- line n comes after these lines, all are good, and the judge holds the run of them all
abbrev pub ComesAfter : {J : Type 0} → Judges J → ℕ → Option J → List (List ℕ) → List ℕ → Type 0
ComesAfter judges n judge ls l =
    (n ≡ length ls + 1) × AreGood (by judges) (ls ++ l ∷ [])
    × HoldsRun judges judge (header_in reading (ls ++ l ∷ []))
    (history_of (events_in reading (ls ++ l ∷ [])))
