use Rattle.qa_fast_writer.proofs.Listed.{listed}
use Rattle.qa_fast_writer.proofs.members.put_ranges.Goals as goal

pub returns-clause-put : goal.returns-clause-put
returns-clause-put c = listed c.args.ranges.now _ _ _ _ _ _ c.in_ok-put_key.ensures c.in_ok-extend_from_slice.ensures.items (rw c.as_slice.ensures at c.in_ok-put_pairs.ensures.put) c.in_ok-extend_from_slice-2.ensures.items
