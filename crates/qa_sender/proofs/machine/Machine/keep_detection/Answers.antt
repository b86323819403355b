use Rattle.std.proofs.Common.{◌∙◌, sym, ap}
use Rattle.qa_base.specs.declared.header.Options.{Options}
use Rattle.qa_base.specs.values.Settings.{is_may}
use Rattle.qa_sender.proofs.connection_lemmas.Detections.{kept_none, kept_some}
use Rattle.qa_sender.proofs.machine.Machine.keep_detection.Goals as goal

pub returns-then-is_may-clause-detection : goal.returns-then-is_may-clause-detection
returns-then-is_may-clause-detection c = λ k h run measured sent.
    c.keep_whole.ensures.detection k h run measured sent
    ∙ kept_some k c.args.self.now.connection.header _ measured.header (ap (λ (o : Options). is_may o.loss_by_number) (sym c.options.ensures.value) ∙ (sym c.is_may.ensures ∙ c.if-is_may.true))

pub returns-clause-detection : goal.returns-clause-detection
returns-clause-detection c = λ k h run measured sent.
    kept_none k c.args.self.now.connection.header _ measured.header (ap (λ (o : Options). is_may o.loss_by_number) (sym c.options.ensures.value) ∙ (sym c.is_may.ensures ∙ c.if-is_may.false))
