use Rattle.qa_sender.proofs.Answered.{open_in_is}
use Rattle.qa_sender.proofs.answers.open_in.Goals as goal

pub returns : goal.returns
returns c = λ settings h run stands.
    open_in_is (record { awaits = c.awaits.result; oldest = c.first_flying.result }) settings h c.args.space c.args.packets.now c.awaits.ensures c.first_flying.ensures run stands
