use Rattle.std.proofs.Common.{refl}
use Rattle.qa_base.proofs.space.Space.named.Goals as goal

-- Written out, so that a wrong body is refused at this line.
pub returns-in-handshake : goal.returns-in-handshake
returns-in-handshake c = rw c.in-handshake.is refl
