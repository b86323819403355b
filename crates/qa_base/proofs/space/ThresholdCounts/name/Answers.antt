use Rattle.std.proofs.Common.{refl}
use Rattle.qa_base.proofs.space.ThresholdCounts.name.Goals as goal

-- Written out, so that a wrong body is refused at this line.
pub returns-in-Packets : goal.returns-in-Packets
returns-in-Packets c = rw c.in-Packets.is refl
