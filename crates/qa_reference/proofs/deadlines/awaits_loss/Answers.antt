use Rattle.std.proofs.Common.{◌∙◌, sym, ap, ap₂}
use Rattle.qa_base.specs.machine.Packets.{Packet, history_of, is_below_largest, largest_acknowledged}
use Rattle.qa_reference.proofs.Thirds.{third_of}
use Rattle.qa_reference.proofs.deadlines.awaits_loss.Goals.{then-packet, else-packet}
use Rattle.qa_reference.proofs.deadlines.awaits_loss.Goals as goal

pub returns-then-is_open : goal.returns-then-is_open
returns-then-is_open c =
    let h = history_of c.args.events.now in
    let below =
    c.is_below_largest.ensures
    ∙ (ap₂ is_below_largest c.get.ensures.value c.largest_acknowledged.ensures
    ∙ ap (λ (p : Packet). is_below_largest p.number (largest_acknowledged h p.space)) c.packet-2.view_is) in
    elim c.if-packet.branch [
      | then-packet w ↦ below ∙ third_of _ _ _ (sym (ap (λ (p : Packet). p.in_flight) c.packet.view_is) ∙ w.if-packet.true) (sym w.is_open.ensures ∙ (sym w.value-is ∙ c.if-is_open.true))
      | else-packet w ↦ cc
    ]
