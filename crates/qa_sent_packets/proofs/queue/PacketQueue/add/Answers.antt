use Rattle.std.proofs.Common.{◌≡◌, ◌∙◌, ◌+◌, ◌<◌, List, [], ◌∷◌, ◌++◌, length, ap, rules}
use Rattle.qa_sent_packets.specs.declared.packet.SentPacket.{SentPacket}
use Rattle.qa_sent_packets.proofs.Pushed.{entries_below, indexed_push, space_packets_stays, space_same}
use Rattle.qa_sent_packets.proofs.Sums.{bytes_fit}
use Rattle.qa_sent_packets.proofs.queue.PacketQueue.add.Goals as goal

pub enter-requires : goal.enter-requires
enter-requires c =
    rw (c.get.ensures.value, c.requires.space_packets.indexed.entries) (entries_below c.args.self.now.dropped c.args.self.now.packets.items c.args.packet c.requires.ordered)

pub put_on-requires-clause-in_flight : goal.put_on-requires-clause-in_flight
put_on-requires-clause-in_flight c =
    bytes_fit c.args.packet.space c.args.self.now.dropped c.args.self.now.packets.items c.args.space_packets.now c.args.packet c.requires.space_packets.indexed c.requires.sizes c.requires.few c.requires.small

pub advance-requires-clause-indexed : goal.advance-requires-clause-indexed
advance-requires-clause-indexed c =
    let p = c.args.packet in
    let ps = c.args.self.now.packets.items in
    let items : c.push_back_reserved.new.self.items ≡ ps ++ p ∷ [] =
    ◌∙◌ {A = List SentPacket} c.push_back_reserved.ensures.items (ap (λ xs. xs ++ p ∷ []) c.in_ok-reserve.ensures.items) in
    let len : c.len.result ≡ length ps = c.len.ensures ∙ c.args.self.now.packets.ok.0 in
    rw items
    (indexed_push p.space c.args.self.now.dropped ps p c.args.space_packets.now c.put_on.new.self c.get.result (c.args.self.now.dropped + c.len.result) (space_same p.space) c.requires.open c.requires.space_packets.indexed
    c.get.ensures.value (ap (λ k. c.args.self.now.dropped + k) len) (c.put_on.ensures.entries ∙ c.in_ok-enter.ensures.ok) c.put_on.ensures.in_flight c.put_on.ensures.awaiting)

pub returns-else-not-flew-clause-space_packets : goal.returns-else-not-flew-clause-space_packets
returns-else-not-flew-clause-space_packets c =
    let p = c.args.packet in
    let ps = c.args.self.now.packets.items in
    let items : c.push_back_reserved.new.self.items ≡ ps ++ p ∷ [] =
    ◌∙◌ {A = List SentPacket} c.push_back_reserved.ensures.items (ap (λ xs. xs ++ p ∷ []) c.in_ok-reserve.ensures.items) in
    let len : c.len.result ≡ length ps = c.len.ensures ∙ c.args.self.now.packets.ok.0 in
    let some : 0 < c.args.space_packets.now.in_flight = search (rules, c.if-not-flew.false) in
    rw items
    (space_packets_stays p.space c.args.self.now.dropped ps p c.args.space_packets.now c.put_on.new.self c.requires.space_packets some
    (indexed_push p.space c.args.self.now.dropped ps p c.args.space_packets.now c.put_on.new.self c.get.result (c.args.self.now.dropped + c.len.result) (space_same p.space) c.requires.open c.requires.space_packets.indexed
    c.get.ensures.value (ap (λ k. c.args.self.now.dropped + k) len) (c.put_on.ensures.entries ∙ c.in_ok-enter.ensures.ok) c.put_on.ensures.in_flight c.put_on.ensures.awaiting)
    c.put_on.ensures.next)
