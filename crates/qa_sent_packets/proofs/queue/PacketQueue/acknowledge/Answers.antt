use Rattle.std.proofs.Common.{◌∙◌, ◌++◌, filter, length, ap, arith, sym}
use Rattle.qa_sent_packets.specs.Fates.{is_new}
use Rattle.qa_sent_packets.specs.Naming.{turned}
use Rattle.qa_sent_packets.proofs.Acknowledged.{covered_behind, covered_named}
use Rattle.qa_sent_packets.proofs.Entries.{fewer_entries}
use Rattle.qa_sent_packets.proofs.Opened.{new_alike}
use Rattle.qa_sent_packets.proofs.Stretches.{named_turned}
use Rattle.qa_sent_packets.proofs.queue.PacketQueue.acknowledge.Goals as goal

pub make_ready-requires-clause-few : goal.make_ready-requires-clause-few
make_ready-requires-clause-few c =
    let fewer = fewer_entries c.args.space c.args.self.now.dropped c.args.self.now.packets.items in
    let same = ap length c.requires.space_packets.indexed.entries in
    omega (arith, fewer, same, c.requires.few)

pub advance-requires-clause-behind : goal.advance-requires-clause-behind
advance-requires-clause-behind c =
    rw (c.cover_spans.ensures.dropped, c.cover_spans.ensures.packets, c.cover_spans.ensures.next, c.in_ok-make_ready.ensures.next)
    (covered_behind c.args.space (turned c.args.falling c.args.spans.now) c.args.self.now.dropped c.args.self.now.packets.items c.args.space_packets.now.next c.requires.space_packets.behind)

pub returns-clause-packets : goal.returns-clause-packets
returns-clause-packets c =
    c.cover_spans.ensures.packets
    ∙ covered_named c.args.space (turned c.args.falling c.args.spans.now) c.args.spans.now c.args.self.now.packets.items (λ n. sym (named_turned c.args.falling c.args.spans.now n))

pub returns-clause-new : goal.returns-clause-new
returns-clause-new c =
    let ps = c.args.self.now.packets.items in
    c.cover_spans.ensures.new
    ∙ (ap (λ found. found ++ filter (is_new c.args.space (turned c.args.falling c.args.spans.now)) ps) c.in_ok-make_ready.ensures.items
    ∙ ap (λ qs. c.args.found.now.items ++ qs)
    (new_alike c.args.space (turned c.args.falling c.args.spans.now) c.args.spans.now ps (λ n. sym (named_turned c.args.falling c.args.spans.now n))))
