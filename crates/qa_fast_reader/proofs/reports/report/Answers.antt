use Rattle.qa_fast_reader.proofs.reports.report.Goals as goal

pub loop-i-preserved : goal.loop-i-preserved
loop-i-preserved c = c.in_ok-rest-2.ensures.found c.args.bytes.now c.loop-i.invariant
