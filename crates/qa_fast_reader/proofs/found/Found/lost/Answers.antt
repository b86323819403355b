use Rattle.std.proofs.Common.{sym, ◌∙◌}
use Rattle.qa_fast_reader.proofs.Saying.{says_lost}
use Rattle.qa_fast_reader.proofs.found.Found.lost.Goals as goal

pub returns : goal.returns
returns c =
    says_lost c.args.self.now c.in_ok-time.time c.in_ok-space.space c.in_ok-ranges.ranges
    c.requires c.in_ok-time.ensures c.in_ok-space.was (sym c.take.ensures.value ∙ c.in_ok-ranges.was)
