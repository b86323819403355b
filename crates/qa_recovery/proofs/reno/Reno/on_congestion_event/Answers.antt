use Rattle.std.proofs.Common.{refl}
use Rattle.qa_recovery.proofs.reno.Reno.on_congestion_event.Goals as goal

-- Written out, so that a wrong body is refused at this line.
pub returns-clause-state : goal.returns-clause-state
returns-clause-state c = rw (← c.if-not-is_outside_recovery.ensures, ← c.self.view_is, c.max.ensures, c.minimum_window.ensures) refl
