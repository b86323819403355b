use Rattle.qa_fast_reader.proofs.Saying.{says_metrics}
use Rattle.qa_fast_reader.proofs.found.Found.metrics.Goals as goal

pub returns : goal.returns
returns c = says_metrics c.args.self.now c.in_ok-time.time c.requires c.in_ok-time.ensures
