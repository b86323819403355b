use Rattle.qa_fast_reader.proofs.Listing.{behind_a_space, behind_no_space}
use Rattle.qa_fast_reader.proofs.ranges.behind_space.Goals as goal

pub returns-then-bytes-place-eq32 : goal.returns-then-bytes-place-eq32
returns-then-bytes-place-eq32 c = behind_a_space c.args.bytes.now c.args.place c.requires c.if-bytes-place-eq32.true

pub returns-else-bytes-place-eq32 : goal.returns-else-bytes-place-eq32
returns-else-bytes-place-eq32 c = behind_no_space c.args.bytes.now c.args.place
