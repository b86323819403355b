use Rattle.std.proofs.Common.{List, [], length}
use Rattle.qa_logs.proofs.cutting.take_records.Given as goal
use Rattle.qa_logs.specs.Cutting.{Given, NextRecord, Steps, WantsMore}
use Rattle.qa_qlog.specs.Cutting.{left}

abbrev pub invariant-records : goal.invariant-records
invariant-records g l = record {
  steps : (ts : List Given) × Steps NextRecord l.fn.document ts l.document × Steps (WantsMore g.T.Taker.takes) l.fn.taker ts l.taker;
}

abbrev pub decreases-records : goal.decreases-records
decreases-records g l = length (left l.document []).0
