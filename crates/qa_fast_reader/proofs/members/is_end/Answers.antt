use Rattle.qa_fast_reader.proofs.Taking.{end_alone, end_before_return}
use Rattle.qa_fast_reader.proofs.members.is_end.Goals as goal

pub returns-then-is_last : goal.returns-then-is_last
returns-then-is_last c is = end_alone c.args.bytes.now (c.is_last.ensures c.if-is_last.true)

pub returns : goal.returns
returns c is = end_before_return c.args.bytes.now (c.is_before_return.ensures is)
