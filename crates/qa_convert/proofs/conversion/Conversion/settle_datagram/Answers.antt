use Rattle.std.proofs.Common.{◌∙◌, true}
use Rattle.qa_convert.proofs.Sent.{set_are}
use Rattle.qa_convert.proofs.conversion.Conversion.settle_datagram.Goals as goal

pub loop-packet-preserved : goal.loop-packet-preserved
loop-packet-preserved c = record {
  are = λ ps old.
      set_are true true ps c.loop-packet.packet-items c.loop-packet.packet-index c.packet-item.result _ (c.loop-packet.invariant.are ps old)
      (λ p is. c.in_ok-settle_added.ensures.is p is);
  told = c.in_ok-settle_added.ensures.told ∙ c.loop-packet.invariant.told;
  rules = c.in_ok-settle_added.ensures.rules ∙ c.loop-packet.invariant.rules;
}
