use Rattle.std.proofs.Common.{◌≡◌, ◌∙◌, ◌++◌, map, arith, subst, sym, take}
use Rattle.std.proofs.lemmas.List.{take_all}
use Rattle.qa_violations.proofs.all_lemmas.Told.{up_to_one_more}
use Rattle.qa_violations.specs.all.Violated.{violated}
use Rattle.qa_violations.specs.all.Keeping.{Keeps}
use Rattle.qa_violations.specs.around.Keeping as kept
use Rattle.qa_violations.specs.around.Rows.{rows}
use Rattle.qa_violations.specs.declared.around.latest.Latest.{Latest}
use Rattle.qa_violations.proofs.all.keeping.Kept.note_each.Goals as goal

pub returns-clause-kept : goal.returns-clause-kept
returns-clause-kept c = λ count u ls ds is keeps held.
    let of = violated u c.args.n ls c.args.line.now c.args.event.now in
    let past = c.loop-violation-test.false in
    let all = take_all c.loop-violation.violation-index c.args.violations.now (omega arith) in
    subst (λ xs. Keeps count c.args.name.now c.loop-violation.self (ds ++ map of xs)) all (c.loop-violation.invariant.1 count u ls ds is keeps held)

pub loop-violation-preserved : goal.loop-violation-preserved
loop-violation-preserved c = (
  (c.in_ok-note.ensures.rest.0 ∙ c.loop-violation.invariant.0.0, c.in_ok-note.ensures.rest.1 ∙ c.loop-violation.invariant.0.1),
  λ count u ls ds is keeps held.
      let of = violated u c.args.n ls c.args.line.now c.args.event.now in
      let i = c.loop-violation.violation-index in
      let still = subst (λ (latest : Latest). (latest.count ≡ count) × kept.Keeps latest (rows ls)) (sym c.loop-violation.invariant.0.0) held in
      up_to_one_more (Keeps count c.args.name.now c.note.new.self) of ds c.args.violations.now i c.violation-item.result c.loop-violation-test.true c.violation-item.is
      (c.in_ok-note.ensures.kept count u ls (ds ++ map of (take i c.args.violations.now)) (c.loop-violation.invariant.0.1 ∙ is) (c.loop-violation.invariant.1 count u ls ds is keeps held) still),
)
