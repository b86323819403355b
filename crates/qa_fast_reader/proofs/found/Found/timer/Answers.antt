use Rattle.qa_fast_reader.proofs.Saying.{says_timer}
use Rattle.qa_fast_reader.proofs.found.Found.timer.Goals as goal

pub returns : goal.returns
returns c =
    says_timer c.args.self.now c.in_ok-time.time c.in_ok-kind.kind c.in_ok-space.space
    c.requires c.in_ok-time.ensures c.in_ok-kind.was c.in_ok-space.was
