use Rattle.std.proofs.Common.{◌∙◌, ap, max}
use Rattle.qa_sent_packets.proofs.Dropped.{space_packets_dropped}
use Rattle.qa_sent_packets.proofs.space_packets.SpacePackets.drop_first.Goals as goal

pub returns : goal.returns
returns c = λ d ps place space_packets.
    space_packets_dropped c.args.space d c.args.dropped c.args.packet.now ps c.args.self.now (record c.forget.new.self { next = c.max-self.result }) c.requires place space_packets
    (c.forget.ensures.entries d ps space_packets.indexed.entries) c.forget.ensures.in_flight c.forget.ensures.awaiting
    (c.max-self.ensures ∙ ap (λ n. max n c.args.dropped) c.forget.ensures.next)
