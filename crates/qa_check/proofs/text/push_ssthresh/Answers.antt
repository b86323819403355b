use Rattle.qa_format.specs.verdicts.Report.{ssthresh_line}
use Rattle.qa_check.proofs.text.push_ssthresh.Goals as goal

pub returns-in-Some : goal.returns-in-Some
unfolding ssthresh_line
returns-in-Some c = rw c.in-Some.is c.push_number_line.ensures
