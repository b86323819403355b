use Rattle.std.proofs.Common.{refl}
use Rattle.qa_logs.proofs.tracing.Trace.new.Goals as goal

pub returns : goal.returns
returns c = record {
  has_header = refl;
  cutter = c.new.ensures;
  is_torn = c.is_some.ensures;
  records = record {
    reading = refl;
    torn = c.new-2.ensures;
    trace = refl;
    is_at_head = c.has_first_text.ensures;
  };
}
