use Rattle.std.proofs.Common.{◌∙◌, sym}
use Rattle.std.proofs.lemmas.Bool.{both_ways, false_from_ne_true}
use Rattle.qa_base.specs.values.Events.{is_named}
use Rattle.qa_sent_packets.proofs.Taken.{all_taken, nothing_taken}
use Rattle.qa_sent_packets.proofs.queue.PacketQueue.take_all.Goals as goal

pub returns-then-free-eq0-clause-packets : goal.returns-then-free-eq0-clause-packets
returns-then-free-eq0-clause-packets c = sym (nothing_taken c.args.free c.args.spans.now c.args.self.now.packets.items c.if-free-eq0.true)

pub returns-clause-packets : goal.returns-clause-packets
returns-clause-packets c =
    let spans = c.args.spans.now in
    sym (all_taken c.args.free spans c.loop-number.self.packets.items
    (λ n is. false_from_ne_true (is_named spans n) (λ named. both_ways (is_named spans n) (c.in_default.ensures.next n (c.loop-number.invariant.left n is named)) named)))
    ∙ c.loop-number.invariant.packets
