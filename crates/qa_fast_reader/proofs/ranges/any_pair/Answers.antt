use Rattle.qa_fast_reader.proofs.Listing.{is_pair}
use Rattle.qa_fast_reader.proofs.ranges.any_pair.Goals as goal

pub returns : goal.returns
returns c = is_pair c.in_ok-lo.lo c.in_ok-hi.hi _ _ _ _ _ _ c.in_ok-begin_array.ensures c.in_ok-lo.ensures.1 c.in_ok-comma.ensures c.in_ok-hi.ensures.1 c.in_ok-rest.ensures
