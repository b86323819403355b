use Rattle.qa_sender.proofs.Answered.{are_open}
use Rattle.qa_sender.proofs.answers.open_packets.Goals as goal

pub returns : goal.returns
returns c = λ settings h run stands.
    are_open (record { initial = c.open_in.result; handshake = c.open_in-2.result; app = c.open_in-3.result }) settings h
    (c.open_in.ensures settings h run stands) (c.open_in-2.ensures settings h run stands) (c.open_in-3.ensures settings h run stands)
