use Rattle.qa_fast_reader.specs.Found.{EndsIf}
use Rattle.qa_fast_reader.proofs.reports.report.Given as goal

abbrev pub invariant-loop-i : goal.invariant-loop-i
invariant-loop-i l = EndsIf l.found l.bytes l.rest
