use Rattle.std.proofs.Common.{◌≡◌, ◌∙◌, ◌∷◌, [], Bool, true, sym, subst, refl}
use Rattle.qa_qlog.specs.Frames.{type_of}
use Rattle.qa_convert.specs.Packets.{KeepsIf, is_ack}
use Rattle.qa_qlog.specs.declared.keys.NoValue.{NoValue}
use Rattle.qa_convert.proofs.Faulty.{if_err, of_value_weaker}
use Rattle.qa_convert.specs.Faults.{IsAckFault, OfValue}
use Rattle.qa_convert.proofs.packet.keep.Goals as goal

pub returns-in_ok-push-clause-gives : goal.returns-in_ok-push-clause-gives
returns-in_ok-push-clause-gives c j begins =
    let kept = c.in_ok-ack.ack ∷ [] in
    let is : is_ack (type_of j) ≡ true = sym (c.is_ack.ensures j begins) ∙ c.if-is_ack.true in
    (kept, c.in_ok-push.ensures, subst (λ (b : Bool). KeepsIf b c.args.unit j kept) (sym is) (c.in_ok-ack.ack, refl, c.in_ok-ack.ensures.gives j begins))

pub returns-in_err-ack-clause-fault : goal.returns-in_err-ack-clause-fault
returns-in_err-ack-clause-fault c j begins =
    let unit = c.args.unit in
    let is : is_ack (type_of j) ≡ true = sym (c.is_ack.ensures j begins) ∙ c.if-is_ack.true in
    if_err (OfValue (λ (v : NoValue). (is_ack (type_of j) ≡ true) × IsAckFault unit j v)) c.from_residual.result _ c.from_residual.ensures.1
    (of_value_weaker (IsAckFault unit j) (λ (v : NoValue). (is_ack (type_of j) ≡ true) × IsAckFault unit j v) _ (λ v fault. (is, fault)) (c.in_err-ack.ensures.fault j begins))
