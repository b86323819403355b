use Rattle.qa_fast_reader.proofs.Saying.{time_is}
use Rattle.qa_fast_reader.proofs.found.Found.micros.Goals as goal

pub returns : goal.returns
returns c = time_is c.args.self.now.time c.in_ok-self.field-0 c.new.result c.in_ok-self.was c.new.ensures
