use Rattle.qa_fast_reader.proofs.ranges.range.Goals as goal

pub returns : goal.returns
returns c = record { range = (c.in_ok-lo.lo, c.in_ok-lo.hi); is_new = c.in_ok-put.ensures.0; is_range = c.in_ok-put.ensures.1; lexed = c.in_ok-lo.ensures }
