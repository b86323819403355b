use Rattle.std.proofs.Common.{◌∙◌, Some, ap}
use Rattle.qa_sender.proofs.connection_lemmas.Detections.{detected_to}
use Rattle.qa_sender.proofs.machine.Machine.keep_whole.Goals as goal

pub returns-clause-detection : goal.returns-clause-detection
returns-clause-detection c = λ k h run measured sent.
    ap Some c.detected-detection.ensures
    ∙ detected_to c.args.space c.args.looked c.args.mark c.args.self.now.connection.rtt c.args.self.now.connection.reno c.far_end-far_end.result _ _ (c.far_end-far_end.ensures k h run measured sent)
