use Rattle.qa_fast_reader.proofs.Taking.{some_reads}
use Rattle.qa_fast_reader.proofs.in_order.put_ack.Goals as goal

pub returns : goal.returns
returns c whole before is = some_reads whole c.ack_behind.result c.in-Some.line (c.ack_behind.ensures whole before) c.in-Some.is
