use Rattle.std.proofs.lemmas.Option.{IfSome_then}
use Rattle.qa_fast_reader.proofs.reports.report_begun.Goals as goal

pub returns : goal.returns
returns c = IfSome_then c.metrics_next.result c.metrics_next.ensures (λ end ends. ends c.args.bytes.now c.in_ok-rest.ensures)
