use Rattle.std.proofs.Common.{◌∙◌, inl, inr, sym}
use Rattle.qa_qlog.specs.Packets.{header_of}
use Rattle.qa_convert.proofs.Faulty.{if_err}
use Rattle.qa_convert.specs.Faults.{IsPacketFault, OfValue}
use Rattle.qa_convert.proofs.packet.LoggedPacket.of.Goals as goal

pub returns-in_err-number-clause-fault : goal.returns-in_err-number-clause-fault
returns-in_err-number-clause-fault c d finds header =
    if_err (OfValue (IsPacketFault c.args.unit d)) c.from_residual.result _ c.from_residual.ensures.1
    (c.in-Some.space, sym (c.space_of.ensures (header_of d) d header finds) ∙ c.in-Some.is, inl (c.in_err-number.ensures.fault (header_of d) d header finds))

pub returns-in_err-content-clause-fault : goal.returns-in_err-content-clause-fault
returns-in_err-content-clause-fault c d finds header =
    if_err (OfValue (IsPacketFault c.args.unit d)) c.from_residual-in_err-content.result _ c.from_residual-in_err-content.ensures.1
    (c.in-Some.space, sym (c.space_of.ensures (header_of d) d header finds) ∙ c.in-Some.is, inr (inr (inl (c.in_err-content.ensures.fault d finds))))
