use Rattle.std.proofs.Common.{◌≡◌, ◌∙◌, ◌∷◌, [], true, false, inl, sym}
use Rattle.qa_qlog.specs.Packets.{header_of}
use Rattle.qa_qlog.specs.declared.names.EventName.TheVariants as name
use Rattle.qa_convert.proofs.Read.{says_one}
use Rattle.qa_convert.proofs.Faulty.{if_err, of_event_fault, one_fault}
use Rattle.qa_convert.specs.Faults.{IsEventFault, IsFault, OfEvent}
use Rattle.qa_convert.proofs.surveying.Surveying.see_event.Goals as goal

pub returns-clause-says : goal.returns-clause-says
returns-clause-says c d finds =
    let event = c.args.event in
    let s = c.in_ok-said.said in
    let packet = c.of-packet.ensures d finds in
    let other : event.name ≡ name.PacketsLost → ⊥ = λ is.
    let same = rw is at c.eq.ensures in
    let no : true ≡ false = sym same ∙ c.if-eq.false in
    cc in (
      s ∷ [],
      says_one c.args.self.now.head.unit event.name d s other (inl (c.in_ok-said.ensures.says d packet.0 packet.1)),
      c.in_ok-see.ensures.sources (header_of d) d packet.1 packet.0,
    )

pub returns-in_err-said-clause-fault : goal.returns-in_err-said-clause-fault
returns-in_err-said-clause-fault c d finds =
    let unit = c.args.self.now.head.unit in
    let n = c.args.event.name in
    let packet = c.of-packet.ensures d finds in
    let other : n ≡ name.PacketsLost → ⊥ = λ is.
    let same = rw is at c.eq.ensures in
    let no : true ≡ false = sym same ∙ c.if-eq.false in
    cc in
    if_err (OfEvent (IsFault unit n d)) c.from_residual.result _ c.from_residual.ensures.1
    (of_event_fault (IsEventFault unit n d) (IsFault unit n d) _ (λ e is. one_fault unit n d e other (inl is)) (c.in_err-said.ensures.fault d packet.0 packet.1))
