use Rattle.std.proofs.Common.{◌∙◌}
use Rattle.qa_sender.proofs.Answered.{totals_kept}
use Rattle.qa_sender.proofs.running.Running.totals_now.Goals as goal

pub returns-clause-totals : goal.returns-clause-totals
returns-clause-totals c = rw (← c.self.view_is) (λ settings h is.
    c.totals.ensures
    ∙ totals_kept _ settings h c.bytes_in_flight.result c.owed_count.result c.bytes_in_flight.ensures.sum c.owed_count.ensures
    c.window.result c.window.ensures c.ssthresh.result c.ssthresh.ensures is)
