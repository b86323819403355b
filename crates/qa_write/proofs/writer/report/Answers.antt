use Rattle.std.proofs.Common.{rules}
use Rattle.qa_write.proofs.writer.report.Goals as goal

pub returns-in-None : goal.returns-in-None
returns-in-None c = search rules
