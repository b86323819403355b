use Rattle.qa_fast_reader.proofs.Saying.{says_keys}
use Rattle.qa_fast_reader.proofs.found.Found.handshake_keys.Goals as goal

pub returns : goal.returns
returns c = says_keys c.args.self.now c.in_ok-time.time c.requires c.in_ok-time.ensures
