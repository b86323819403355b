-- What it is to return the ranges of an ACK frame.
use Rattle.std.specs.Prelude.{◌≡◌, ℕ, List, ⊤, Result, Ok, Err}
use Rattle.qa_qlog.specs.declared.acks.NoRanges.{NoRanges}
use Rattle.qa_qlog.specs.declared.acks.NoRanges.TheVariants.{Unread, OutOfMemory}
use Rattle.qa_qlog.specs.declared.keys.NoValue.{NoValue}

-- the list that is returned has these ranges, and the fault is this one, unless it is out of memory
abbrev pub GivesRanges : Result (List (ℕ × ℕ)) NoRanges → Result (List (ℕ × ℕ)) NoValue → Type 0
GivesRanges (Ok found) ranges = ranges ≡ Ok found
GivesRanges (Err (Unread fault)) ranges = ranges ≡ Err fault
GivesRanges (Err OutOfMemory) ranges = ⊤
