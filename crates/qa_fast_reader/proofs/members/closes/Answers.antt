use Rattle.qa_fast_reader.proofs.Taking.{closes_at_end}
use Rattle.qa_fast_reader.proofs.members.closes.Goals as goal

pub returns-then-is_end : goal.returns-then-is_end
returns-then-is_end c is = closes_at_end c.args.bytes.now (c.is_end.ensures c.if-is_end.true)
