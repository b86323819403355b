use Rattle.qa_sender.proofs.connection_lemmas.Due.{packet_deadline_is}
use Rattle.qa_sender.proofs.connection.connection.Connection.packet_deadline.Goals as goal

pub returns-clause-meaning : goal.returns-clause-meaning
returns-clause-meaning c = λ c' h of run are_open. rw (c.or.ensures, c.earliest_loss.ensures, c.earliest_pto.ensures) (packet_deadline_is c.args.self.now c.args.packets.now c' h of run are_open)
