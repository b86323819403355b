use Rattle.qa_ledger.proofs.Parts.{rules_with, rules_without}
use Rattle.qa_ledger.proofs.violating.push_broken.Goals as goal
use Rattle.qa_ledger.proofs.violating.push_broken.Goals.{then-is_broken+in_ok-push, else-is_broken}

pub loop-is_broken-preserved : goal.loop-is_broken-preserved
loop-is_broken-preserved c =
    let tests = c.args.broken.now in
    let i = c.loop-is_broken.is_broken-index in
    elim c.if-is_broken.branch [
      | then-is_broken+in_ok-push w ↦ rw w.found-is (rules_with tests i _ _ _ _ c.loop-is_broken-test.true w.if-is_broken.true c.loop-is_broken.invariant w.in_ok-push.ensures.items)
      | else-is_broken w ↦ rw w.found-is (rules_without tests i _ _ _ c.loop-is_broken-test.true w.if-is_broken.false c.loop-is_broken.invariant)
    ]
