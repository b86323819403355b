use Rattle.std.proofs.Common.{◌≡◌, ◌∙◌, ◌++◌, filter, length, take, ap, rules}
use Rattle.qa_base.specs.values.Events.{is_named}
use Rattle.qa_base.specs.values.PerSpace.{of_space}
use Rattle.qa_sent_packets.specs.Fates.{is_new}
use Rattle.qa_sent_packets.specs.declared.packet.SentPacket.{SentPacket}
use Rattle.qa_sent_packets.proofs.Filed.{acknowledged_by, left_unnamed}
use Rattle.qa_sent_packets.proofs.packets.SentPackets.acknowledge.Goals as goal

pub returns-clause-ok : goal.returns-clause-ok
returns-clause-ok c =
    let s = c.args.space in
    let ranges = c.args.spans.now in
    let old = c.args.self.now in
    let strays = of_space s old.strays in
    let named = filter (λ (p : SentPacket). is_named ranges p.number) strays in
    let new = filter (is_new s ranges) old.packets in
    let copied : c.copy_strays.new.found.items ≡ named = c.in_ok-copy_strays.ensures.found ∙ ap (λ xs. xs ++ named) c.requires.none in
    let len : c.len-copied.result ≡ length c.copy_strays.new.found.items = search rules in
    let all : c.deref.result.now ≡ named ++ new = c.deref.ensures.value ∙ (c.in_ok-acknowledge_queue.ensures.found ∙ ap (λ xs. xs ++ new) copied) in
    acknowledged_by s ranges old c.acknowledge_queue.new.self c.forget_strays.new.self (take c.len-copied.result c.deref.result.now) c.in_ok-acknowledge_queue.ensures.ok c.forget_strays.ensures
    (left_unnamed ranges strays c.deref.result.now new c.len-copied.result c.in_ok-copy_strays.ensures.rising all (len ∙ ap length copied))
