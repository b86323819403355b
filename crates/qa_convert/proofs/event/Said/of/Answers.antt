use Rattle.std.proofs.Common.{Bool, subst, sym}
use Rattle.std.specs.Prelude.{IfOk}
use Rattle.qa_qlog.specs.Losses as losses
use Rattle.qa_qlog.specs.Packets.{header_of}
use Rattle.qa_qlog.specs.declared.names.EventName.{EventName}
use Rattle.qa_convert.proofs.Read.{if_ok_then}
use Rattle.qa_convert.specs.Said.{Says, SaysLost}
use Rattle.std.proofs.lemmas.Result.{IfErr-weaker}
use Rattle.qa_convert.proofs.Faulty.{or_memory}
use Rattle.qa_convert.specs.Faults.{IsEventFault, IsLostFault, OrMemory}
use Rattle.qa_convert.proofs.event.Said.of.Goals as goal

pub returns-in-PacketLost-clause-says : goal.returns-in-PacketLost-clause-says
returns-in-PacketLost-clause-says c d finds header =
    let h = header_of d in
    let lost : IfOk c.lost_of.result (SaysLost h d (losses.is_repeated d)) =
    subst (λ (b : Bool). IfOk c.lost_of.result (SaysLost h d b)) (c.is_repeated.ensures d finds) (c.lost_of.ensures.says h d header finds) in
    if_ok_then (SaysLost h d (losses.is_repeated d)) (Says c.args.unit c.args.name d) c.lost_of.result
    (λ s says. subst (λ (n : EventName). Says c.args.unit n d s) (sym c.in-PacketLost.is) says) lost

pub returns-in-PacketLost-clause-fault : goal.returns-in-PacketLost-clause-fault
returns-in-PacketLost-clause-fault c d finds header =
    let h = header_of d in
    let unit = c.args.unit in
    IfErr-weaker c.lost_of.result (IsLostFault h d) (OrMemory (IsEventFault unit c.args.name d))
    (λ e is. or_memory (IsEventFault unit c.args.name d) e (subst (λ (n : EventName). IsEventFault unit n d e) (sym c.in-PacketLost.is) is))
    (c.lost_of.ensures.fault h d header finds)
