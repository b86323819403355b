use Rattle.std.proofs.Common.{◌∙◌, ◌++◌, map, take}
use Rattle.qa_violations.proofs.all_lemmas.Told.{up_to_one_more}
use Rattle.qa_violations.specs.all.Violated.{violated}
use Rattle.qa_violations.specs.all.Keeping.{Lists}
use Rattle.qa_violations.proofs.all.listing.Listed.note_each.Goals as goal

pub loop-violation-preserved : goal.loop-violation-preserved
loop-violation-preserved c = (
  c.in_ok-note.ensures.rest ∙ c.loop-violation.invariant.0,
  λ before bytes ds lists.
      let of = violated c.args.unit c.args.n before bytes c.args.event.now in
      let i = c.loop-violation.violation-index in
      up_to_one_more (Lists c.note.new.self) of ds c.args.violations.now i c.violation-item.result c.loop-violation-test.true c.violation-item.is
      (c.in_ok-note.ensures.listed before bytes (ds ++ map of (take i c.args.violations.now)) (c.loop-violation.invariant.1 before bytes ds lists)),
)
