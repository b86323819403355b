use Rattle.qa_scan.proofs.Passing.{unit_spelled}
use Rattle.qa_scan.proofs.strings.unit.Goals as goal

pub returns : goal.returns
returns c = unit_spelled _ _ _ _ _ _ _ _ c.in_ok-first.ensures c.in_ok-second.ensures c.in_ok-third.ensures c.in_ok-fourth.ensures
