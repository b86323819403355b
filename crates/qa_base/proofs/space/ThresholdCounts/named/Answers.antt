use Rattle.std.proofs.Common.{refl}
use Rattle.qa_base.proofs.space.ThresholdCounts.named.Goals as goal

-- Written out, so that a wrong body is refused at this line.
pub returns-in-packets : goal.returns-in-packets
returns-in-packets c = rw c.in-packets.is refl
