use Rattle.std.proofs.Common.{Global, Vec}
use Rattle.qa_convert.proofs.Read.{if_ok_then}
use Rattle.qa_convert.specs.Reading.{AreLosses, SaysLosses}
use Rattle.qa_convert.specs.declared.event.Said.{Said}
use Rattle.qa_qlog.specs.Frames.{listed}
use Rattle.std.proofs.Common.{inr}
use Rattle.std.proofs.lemmas.Result.{IfErr-weaker}
use Rattle.qa_convert.proofs.Faulty.{or_memory_weaker}
use Rattle.qa_convert.specs.Faults.{IsLossesFault, IsLostAmong, OrMemory}
use Rattle.qa_convert.proofs.event.losses_of.Goals as goal

pub returns-in-Some-clause-says : goal.returns-in-Some-clause-says
returns-in-Some-clause-says c d finds =
    let given = rw c.in-Some.is at (c.in_ok-headers.ensures d finds) in
    if_ok_then (λ (all : Vec Said Global). AreLosses (listed given.0) all.items) (λ (all : Vec Said Global). SaysLosses d all.items) c.losses_among.result (λ all are. (listed given.0, given.1, are))
    (c.losses_among.ensures.says given.0 given.2)

pub returns-in-Some-clause-fault : goal.returns-in-Some-clause-fault
returns-in-Some-clause-fault c d finds =
    let given = rw c.in-Some.is at (c.in_ok-headers.ensures d finds) in
    IfErr-weaker c.losses_among.result (OrMemory (IsLostAmong (listed given.0))) (OrMemory (IsLossesFault d))
    (λ e. or_memory_weaker (IsLostAmong (listed given.0)) (IsLossesFault d) e (λ e is. inr (listed given.0, given.1, is)))
    (c.losses_among.ensures.fault given.0 given.2)
