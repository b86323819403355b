use Rattle.qa_sender.proofs.machine.Machine.detect_below.Goals as goal

pub returns-clause-packets : goal.returns-clause-packets
returns-clause-packets c = λ k h run measured sent once.
    let far = c.far_end-far_end.ensures k h run measured sent in
    once c.detect.new.self c.thresholds-thresholds.result (c.thresholds-thresholds.ensures k h measured far) c.detect.ensures
