use Rattle.std.proofs.Common.{◌++◌, [], List, inl, inr, refl, sym, subst, append_assoc, append-nil}
use Rattle.json.specs.Json.{Items}
use Rattle.qa_qlog.specs.Frames.{listed}
use Rattle.qa_convert.proofs.Faulty.{if_err, of_value_weaker}
use Rattle.qa_convert.specs.Faults.{IsFaultAmong, OfValue}
use Rattle.qa_convert.specs.Packets.{AreAcksOf}
use Rattle.qa_convert.specs.declared.packet.LoggedAck.{LoggedAck}
use Rattle.qa_convert.proofs.packet.acks_among.Goals as goal

pub loop-frame-init : goal.loop-frame-init
loop-frame-init c js inside = (js, inside, λ kept are. rw c.new-acks.ensures.items are, λ v is. is)

pub loop-frame-preserved : goal.loop-frame-preserved
loop-frame-preserved c js inside =
    let now = c.loop-frame.invariant js inside in
    let f = c.in-Some.ensures.value now.0 now.1 in
    let new = c.in_ok-keep.ensures.gives f.0 f.3 in
    let unit = c.args.unit in (
      f.1,
      f.4,
      λ kept are.
          let all : AreAcksOf unit (listed now.0) (new.0 ++ kept) =
          subst (λ (l : Items). AreAcksOf unit (listed l) (new.0 ++ kept)) (sym f.2) (new.0, kept, refl, new.2, are) in
          rw new.1 (subst (λ (acks : List LoggedAck). AreAcksOf unit (listed js) acks) (sym (append_assoc c.loop-frame.acks.items new.0 kept)) (now.2 (new.0 ++ kept) all)),
      λ v is. now.3 v (subst (λ (l : Items). IsFaultAmong unit (listed l) v) (sym f.2) (inr is)),
    )

pub returns-in_err-keep-clause-fault : goal.returns-in_err-keep-clause-fault
returns-in_err-keep-clause-fault c js inside =
    let now = c.loop-frame.invariant js inside in
    let f = c.in-Some.ensures.value now.0 now.1 in
    let unit = c.args.unit in
    if_err (OfValue (IsFaultAmong unit (listed js))) c.from_residual.result _ c.from_residual.ensures.1
    (of_value_weaker _ (IsFaultAmong unit (listed js)) _
    (λ v is. now.3 v (subst (λ (l : Items). IsFaultAmong unit (listed l) v) (sym f.2) (inl is)))
    (c.in_err-keep.ensures.fault f.0 f.3))

pub returns-clause-gives : goal.returns-clause-gives
returns-clause-gives c js inside =
    let now = c.loop-frame.invariant js inside in
    let done = c.in_default.ensures.value now.0 now.1 in
    let unit = c.args.unit in
    let none : AreAcksOf unit (listed now.0) [] = subst (λ (l : Items). AreAcksOf unit (listed l) []) (sym done) refl in
    subst (λ (acks : List LoggedAck). AreAcksOf unit (listed js) acks) (append-nil c.loop-frame.acks.items) (now.2 [] none)
