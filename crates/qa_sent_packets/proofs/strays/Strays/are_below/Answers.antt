use Rattle.std.proofs.Common.{◌≤◌, ◌<◌, ◌∙◌, length, subst, arith, rules}
use Rattle.std.specs.List.{AllByRecursion}
use Rattle.qa_sent_packets.specs.Naming.{turned}
use Rattle.qa_sent_packets.specs.declared.packet.SentPacket.{SentPacket}
use Rattle.qa_sent_packets.proofs.Filed.{none_named_below}
use Rattle.qa_sent_packets.proofs.Stretches.{length_turned}
use Rattle.qa_sent_packets.proofs.strays.Strays.are_below.Goals as goal

pub returns : goal.returns
returns c = λ is.
    let ranges = turned c.args.falling c.args.spans.now in
    let some' : 1 ≤ length c.args.spans.now = search (rules, c.is_empty.ensures, c.if-is_empty.false) in
    let same = length_turned c.args.falling c.args.spans.now in
    let some : 0 < length ranges = omega (arith, some', same) in
    none_named_below ranges c.nth.result c.args.self.now some c.nth.ensures c.requires.apart c.requires.ranges
    (subst (λ n. AllByRecursion (λ (p : SentPacket). p.number < n) c.args.self.now) (c.get.ensures.value ∙ c.lo.ensures.value) (c.end_below.ensures is))
