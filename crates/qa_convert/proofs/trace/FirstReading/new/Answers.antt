use Rattle.std.proofs.Common.{ap}
use Rattle.qa_convert.specs.Surveying.{Surveyed}
use Rattle.qa_convert.proofs.trace.FirstReading.new.Goals as goal

pub returns : goal.returns
returns c = ap (λ (s : Surveyed). (c.args.asked, s)) (c.new-surveying.ensures c.args.asked.role c.new-survey.ensures)
