use Rattle.qa_format.proofs.format.OrdersRead.{order_reads, header_order_reads}
use Rattle.qa_laws.proofs.definitions.any_order_is_read.Goals as goal

pub returns-clause-event : goal.returns-clause-event
returns-clause-event c = order_reads

pub returns-clause-header : goal.returns-clause-header
returns-clause-header c = header_order_reads
