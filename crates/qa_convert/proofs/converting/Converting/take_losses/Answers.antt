use Rattle.qa_convert.proofs.Faulty.{of_event_fault}
use Rattle.qa_convert.specs.Faults.{IsLossesFault}
use Rattle.qa_convert.proofs.converting.Converting.take_losses.Goals as goal

pub returns-in-Err-clause-fault : goal.returns-in-Err-clause-fault
returns-in-Err-clause-fault c d finds =
    rw c.from.ensures (of_event_fault (IsLossesFault d) (IsLossesFault d) c.in-Err.fault (λ e is. is) (c.in-Err.ensures.fault d finds))
