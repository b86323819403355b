use Rattle.std.proofs.Common.{codes}
use Rattle.json.specs.Find.{get}
use Rattle.qa_qlog.proofs.acks.acked_ranges.Goals as goal

pub returns : goal.returns
returns c j begins = c.ranges_at.ensures (get (codes "acked_ranges") j) (c.get.ensures j begins)
