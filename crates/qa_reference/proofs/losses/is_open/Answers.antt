use Rattle.std.proofs.Common.{◌∙◌, sym, ap}
use Rattle.std.proofs.lemmas.Bool.{false≢true}
use Rattle.qa_base.specs.machine.Packets.{Packet, history_of, is_discarded}
use Rattle.qa_reference.proofs.Owed.{found_by_is}
use Rattle.qa_reference.proofs.Thirds.{asked_third, no_by_second, no_by_first}
use Rattle.qa_reference.proofs.losses.is_open.Goals.{then-is_unsettled, else-is_unsettled}
use Rattle.qa_reference.proofs.losses.is_open.Goals as goal

pub returns-then-not-is_found : goal.returns-then-not-is_found
returns-then-not-is_found c =
    let owed = found_by_is c.args.header.now (history_of c.args.events.now) c.args.look c.args.packet c.requires.seen in
    let gone = c.is_discarded.ensures ∙ ap (λ (p : Packet). is_discarded (history_of c.args.events.now) p.space) c.packet.view_is in
    elim c.if-is_unsettled.branch [
      | then-is_unsettled w ↦ asked_third _ _ _ _ _ _ c.is_unsettled.ensures (w.is_found.ensures ∙ owed) gone w.if-is_unsettled.true (sym w.value-is ∙ c.if-not-is_found.true)
      | else-is_unsettled w ↦ absurd (false≢true (sym w.if-is_unsettled.false ∙ sym w.value-is ∙ c.if-not-is_found.true))
    ]

pub returns-else-not-is_found : goal.returns-else-not-is_found
returns-else-not-is_found c =
    let owed = found_by_is c.args.header.now (history_of c.args.events.now) c.args.look c.args.packet c.requires.seen in
    elim c.if-is_unsettled.branch [
      | then-is_unsettled w ↦ no_by_second _ _ _ _ _ _ c.is_unsettled.ensures (w.is_found.ensures ∙ owed) w.value-is w.if-is_unsettled.true c.if-not-is_found.false
      | else-is_unsettled w ↦ no_by_first _ _ _ _ _ c.is_unsettled.ensures w.if-is_unsettled.false c.if-not-is_found.false
    ]
