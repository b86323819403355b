use Rattle.std.proofs.Common.{arith}
use Rattle.qa_sent_packets.specs.Steps.{discarded_in}
use Rattle.qa_sent_packets.proofs.Parts.{mapped_more}
use Rattle.qa_sent_packets.proofs.discarding.discard_all.Goals as goal

pub loop-at-preserved : goal.loop-at-preserved
loop-at-preserved c =
    mapped_more (discarded_in c.args.space) c.args.packets.now.items c.loop-at.packets.items c.discard_at.new.packets.items c.loop-at.at (omega arith) c.loop-at.invariant c.discard_at.ensures
