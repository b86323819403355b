use Rattle.qa_sent_packets.proofs.Taken.{taken_behind}
use Rattle.qa_sent_packets.proofs.queue.PacketQueue.take.Goals as goal

pub advance-requires-clause-behind : goal.advance-requires-clause-behind
advance-requires-clause-behind c =
    rw (c.take_all-losses.ensures.dropped, c.take_all-losses.ensures.packets, c.take_all-losses.ensures.next)
    (taken_behind c.args.free c.args.spans.now c.args.self.now.dropped c.args.self.now.packets.items c.args.space_packets.now.next c.requires.space_packets.behind)
