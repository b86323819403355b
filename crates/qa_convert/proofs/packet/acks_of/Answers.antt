use Rattle.std.proofs.Common.{◌≡◌, ◌∙◌, List, Option, Result, Ok, Err, Vec, Global, false, map, sym, ap, subst}
use Rattle.std.proofs.lemmas.Bool.{not-true}
use Rattle.std.specs.List.{list_any}
use Rattle.std.specs.Prelude.{IfOk}
use Rattle.json.specs.Json.{Json}
use Rattle.qa_qlog.specs.Frames.{frames, is_ack, listed, type_of}
use Rattle.qa_convert.specs.Packets.{AreAcksOf}
use Rattle.qa_convert.specs.declared.packet.LoggedAck.{LoggedAck}
use Rattle.qa_convert.proofs.NoAcks.{no_acks}
use Rattle.std.proofs.Common.{inr}
use Rattle.std.proofs.lemmas.Result.{IfErr-weaker}
use Rattle.qa_convert.proofs.Faulty.{of_value_weaker}
use Rattle.qa_convert.specs.Faults.{IsFaultAmong, IsFrameFault, OfValue}
use Rattle.qa_convert.proofs.packet.acks_of.Goals as goal

-- what is kept of the frames that the data has
kept_of : {A E : Type 0} (P : List Json → A → Type 0) (r : Result A E) (d : Option Json) (js : List Json) → frames d ≡ Ok js → IfOk r (P js)
    → IfOk r (λ kept. (found : List Json) × (frames d ≡ Ok found) × P found kept)
kept_of P (Ok kept) d js has all = (js, has, all)
kept_of P (Err e) d js has all = tt

pub returns-in-Some-clause-gives : goal.returns-in-Some-clause-gives
returns-in-Some-clause-gives c d finds content =
    let given = rw c.in-Some.is at (c.in_ok-frames.ensures d finds) in
    let keeps = λ (js : List Json) (kept : Vec LoggedAck Global). AreAcksOf c.args.unit js kept.items in
    kept_of keeps c.acks_among.result d (listed given.0) given.1 (c.acks_among.ensures.gives given.0 given.2)

pub returns-then-not-content-clause-gives : goal.returns-then-not-content-clause-gives
returns-then-not-content-clause-gives c d finds content =
    let none : list_any is_ack (map type_of content.0) ≡ false = sym (ap (λ x. x.has_ack) content.2) ∙ not-true c.args.content.has_ack c.if-not-content.true in
    (content.0, content.1, subst (AreAcksOf c.args.unit content.0) (sym c.new.ensures.items) (no_acks c.args.unit content.0 none))

pub returns-in-Some-clause-fault : goal.returns-in-Some-clause-fault
returns-in-Some-clause-fault c d finds =
    let unit = c.args.unit in
    let given = rw c.in-Some.is at (c.in_ok-frames.ensures d finds) in
    IfErr-weaker c.acks_among.result (OfValue (IsFaultAmong unit (listed given.0))) (OfValue (IsFrameFault unit d))
    (λ e. of_value_weaker (IsFaultAmong unit (listed given.0)) (IsFrameFault unit d) e (λ v is. inr (listed given.0, given.1, is)))
    (c.acks_among.ensures.fault given.0 given.2)
