use Rattle.std.proofs.lemmas.Result.{on_ok_weaker}
use Rattle.qa_qlog.specs.Packets.{header_of}
use Rattle.qa_convert.proofs.surveying.Surveying.see_losses.Goals as goal

pub returns-clause-says : goal.returns-clause-says
returns-clause-says c d finds =
    let packet = c.of-packet.ensures d finds in
    on_ok_weaker c.see_all.result (λ is. (c.in_ok-losses.losses.items, c.in_ok-losses.ensures.says d finds, is)) (c.see_all.ensures.sources (header_of d) d packet.1 packet.0)
