use Rattle.std.proofs.Common.{◌∙◌, sym}
use Rattle.qa_sender.proofs.Queries.{bytes_are_held}
use Rattle.qa_sender.proofs.answers.RunningState.bytes_in_flight.Goals as goal

pub returns : goal.returns
returns c = rw (← c.self.view_is) (λ settings h is. c.bytes_in_flight.ensures.sum ∙ sym (bytes_are_held settings h c.self.inside.machine.packets is.after.packets))
