use Rattle.std.proofs.Common.{◌≡◌, ◌∙◌, ◌+◌, ◌-◌, false, List, set, subst, sym, ap, take, refl, arith}
use Rattle.qa_sent_packets.specs.Held.{NoneFlies}
use Rattle.qa_sent_packets.specs.Fates.{is_flying}
use Rattle.qa_sent_packets.specs.Detection.{IsPassed, lost_in}
use Rattle.qa_sent_packets.specs.Steps.{found_by}
use Rattle.qa_sent_packets.specs.declared.packet.SentPacket.{SentPacket}
use Rattle.qa_sent_packets.proofs.Detected.{detected_all, detected_losses, detected_start, found_passed, grounded}
use Rattle.qa_sent_packets.proofs.Parts.{each_more_set, element, mapped_length, mapped_more}
use Rattle.qa_sent_packets.proofs.Settled.{count_none}
use Rattle.qa_sent_packets.proofs.queue.PacketQueue.detect.Goals as goal

pub loop-self-init : goal.loop-self-init
loop-self-init c =
    let high = c.requires.space_packets.behind.high in
    record {
      dropped = refl;
      packets = detected_start c.args.space c.args.thresholds.now c.args.self.now.packets.items (c.args.space_packets.now.next - c.args.self.now.dropped) c.requires.space_packets.behind.none;
      within = omega (arith, high);
      indexed = c.requires.space_packets.indexed;
      none = c.requires.space_packets.behind.none;
      count = sym (count_none c.args.self.now.packets.items c.requires.settled);
      next = refl;
    }

pub loop-self-preserved : goal.loop-self-preserved
loop-self-preserved c =
    let s = c.args.space in
    let l = c.args.thresholds.now in
    let xs = c.args.self.now.packets.items in
    let ys = c.loop-self.self.packets.items in
    let zs = c.pass.new.packets.items in
    let at = c.loop-self.at in
    let passed : IsPassed s l at ys = c.goes_on.ensures.passes c.loop-self-test.true in
    let long = mapped_length (found_by s l) xs ys at c.loop-self.invariant.packets in
    let inside = passed.within in
    let p = element ys at inside in
    record {
      dropped = c.loop-self.invariant.dropped;
      packets = mapped_more (found_by s l) xs ys zs at (omega (arith, inside, long)) c.loop-self.invariant.packets
          (λ x is. c.pass.ensures.packets x is ∙ ap (set ys at) (found_passed s l x (passed.late x is)));
      within = omega (arith, inside, long);
      indexed = c.pass.ensures.indexed c.loop-self.self.dropped c.loop-self.invariant.indexed;
      none = subst (λ (qs : List SentPacket). NoneFlies s (take (at + 1) qs)) (sym (c.pass.ensures.packets p.0 p.1))
          (each_more_set (λ q. is_flying s q ≡ false) ys at (lost_in s p.0) inside (grounded s p.0) c.loop-self.invariant.none);
      count = c.pass.ensures.count;
      next = c.pass.ensures.next ∙ c.loop-self.invariant.next;
    }

pub returns-clause-packets : goal.returns-clause-packets
returns-clause-packets c =
    detected_all c.args.space c.args.thresholds.now c.args.self.now.packets.items c.loop-self.self.packets.items c.loop-self.at c.requires.ordered
    c.loop-self.invariant.within c.loop-self.invariant.packets (c.goes_on.ensures.ends c.loop-self-test.false)

pub returns-clause-losses : goal.returns-clause-losses
returns-clause-losses c =
    rw c.loop-self.invariant.dropped (detected_losses c.args.space c.args.thresholds.now c.args.self.now.dropped c.args.self.now.packets.items c.loop-self.self.packets.items c.loop-self.at c.loop-self.count c.args.space_packets.now.next
    c.requires.ordered c.loop-self.invariant.within c.loop-self.invariant.packets (c.goes_on.ensures.ends c.loop-self-test.false)
    c.requires.settled c.requires.space_packets.behind.none c.loop-self.invariant.count)
