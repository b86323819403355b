use Rattle.std.proofs.Common.{◌≡◌, List, ℕ, ◌++◌, map, take}
use Rattle.qa_violations.specs.all.Violated.{Violated, violated}
use Rattle.qa_violations.specs.all.Keeping.{Lists}
use Rattle.qa_violations.proofs.all.listing.Listed.note_each.Given as goal

abbrev pub invariant-loop-violation : goal.invariant-loop-violation
invariant-loop-violation l = (l.self.latest ≡ l.fn.self.latest)
    × ((before : List (List ℕ)) (bytes : List ℕ) (ds : List Violated) → Lists l.fn.self ds
    → Lists l.self (ds ++ map (violated l.unit l.n before bytes l.event) (take l.violation-index l.violations)))
