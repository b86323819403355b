use Rattle.qa_convert.proofs.Faulty.{if_err, ranges_fault}
use Rattle.qa_convert.specs.Faults.{IsAckFault, OfValue}
use Rattle.qa_convert.proofs.packet.ack_of.Goals as goal

pub returns-in_err-acked_ranges-clause-fault : goal.returns-in_err-acked_ranges-clause-fault
returns-in_err-acked_ranges-clause-fault c j begins =
    if_err (OfValue (IsAckFault c.args.unit j)) c.from_residual.result _ c.from_residual.ensures.1
    (ranges_fault c.args.unit j c.in_err-acked_ranges.field-0.0 (c.in_err-acked_ranges.ensures j begins))
