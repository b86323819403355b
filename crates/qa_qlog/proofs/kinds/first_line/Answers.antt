use Rattle.qa_qlog.proofs.Beginning.{line_found, line_whole}
use Rattle.qa_qlog.proofs.kinds.first_line.Goals as goal

pub returns-in-Some : goal.returns-in-Some
returns-in-Some c = line_found c.args.bytes.now c.min.result c.in-Some.place c.min.ensures c.in-Some.ensures

pub returns-in-None : goal.returns-in-None
returns-in-None c = line_whole c.args.bytes.now c.min.result c.min.ensures c.in-None.ensures
