use Rattle.std.proofs.Common.{◌≡◌, List, ℕ, ◌++◌, map, take}
use Rattle.qa_violations.specs.all.Violated.{Violated, violated}
use Rattle.qa_violations.specs.all.Keeping.{Keeps, KeepsRows}
use Rattle.qa_violations.specs.around.Rows.{rows}
use Rattle.qa_base.specs.declared.space.TimeUnit.{TimeUnit}
use Rattle.qa_violations.proofs.all.keeping.Kept.note_each.Given as goal

abbrev pub invariant-loop-violation : goal.invariant-loop-violation
invariant-loop-violation l = ((l.self.latest ≡ l.fn.self.latest) × (l.self.unit ≡ l.fn.self.unit))
    × ((count : ℕ) (u : TimeUnit) (ls : List (List ℕ)) (ds : List Violated) → l.fn.self.unit ≡ u → Keeps count l.name l.fn.self ds → KeepsRows count l.fn.self (rows ls)
    → Keeps count l.name l.self (ds ++ map (violated u l.n ls l.line l.event) (take l.violation-index l.violations)))
