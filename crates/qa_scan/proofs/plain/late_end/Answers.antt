use Rattle.qa_scan.proofs.Runs.{plain_then}
use Rattle.qa_scan.proofs.plain.late_end.Goals as goal

pub returns : goal.returns
returns c = plain_then c.end_of_half-end.ensures.plain c.slow_end-2.ensures
