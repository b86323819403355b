use Rattle.std.proofs.Common.{refl}
use Rattle.qa_logs.proofs.surveying.Surveying.new.Goals as goal

pub returns : goal.returns
returns c = record {
  cutter = c.new.ensures;
  chosen = refl;
  records = record {
    reading = c.new-2.ensures;
    torn = c.new-3.ensures;
    trace = refl;
    is_at_head = c.has_first_text.ensures;
  };
}
