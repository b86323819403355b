use Rattle.qa_fast_reader.proofs.Taking.{some_reads}
use Rattle.qa_fast_reader.proofs.any_order.put_members.Goals as goal

pub returns : goal.returns
returns c whole before is = some_reads whole c.line_of_members.result c.in-Some.line (c.line_of_members.ensures whole before) c.in-Some.is
