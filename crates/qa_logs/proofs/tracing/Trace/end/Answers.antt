use Rattle.std.proofs.Common.{refl}
use Rattle.std.proofs.lemmas.Result.{on_ok_weaker}
use Rattle.qa_logs.proofs.tracing.Trace.end.Goals as goal

pub returns : goal.returns
returns c = rw (← c.self.view_is) (on_ok_weaker c.end-2.result (λ writes. record {
  has_header = refl;
  cutter = c.end.ensures.none;
  last = c.end.new.taker;
  takes = c.in_ok-end.ensures.ends;
  writes = writes;
}) c.end-2.ensures)
