use Rattle.qa_sent_packets.proofs.Dropped.{sheds_more, sheds_none}
use Rattle.qa_sent_packets.proofs.packets.SentPackets.drop_front.Goals as goal

pub loop-init : goal.loop-init
loop-init c = sheds_none c.args.self.now

pub loop-preserved : goal.loop-preserved
loop-preserved c = sheds_more c.args.self.now c.loop.self c.drop_first.new.self c.loop.invariant (c.drop_first.ensures.sheds c.loop-test.true)
