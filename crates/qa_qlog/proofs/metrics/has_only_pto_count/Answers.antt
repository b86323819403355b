use Rattle.std.proofs.Common.{◌∙◌, sym, ap}
use Rattle.qa_qlog.specs.Metrics.{has_only_pto_count}
use Rattle.qa_qlog.proofs.metrics.has_only_pto_count.Goals as goal

pub returns-in-Some : goal.returns-in-Some
returns-in-Some c j begins =
    let shape = c.in-Some.ensures j begins in
    c.are_only.ensures shape.0 shape.2 ∙ sym (ap has_only_pto_count shape.1)
