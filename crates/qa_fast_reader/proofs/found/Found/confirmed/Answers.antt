use Rattle.qa_fast_reader.proofs.Saying.{says_confirmed}
use Rattle.qa_fast_reader.proofs.found.Found.confirmed.Goals as goal

pub returns : goal.returns
returns c = says_confirmed c.args.self.now c.in_ok-time.time c.requires c.in_ok-time.ensures
