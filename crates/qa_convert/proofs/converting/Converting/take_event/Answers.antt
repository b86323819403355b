use Rattle.std.proofs.Common.{◌≡◌, ◌∙◌, ◌∷◌, [], true, false, sym}
use Rattle.qa_qlog.specs.declared.names.EventName.TheVariants as name
use Rattle.qa_convert.proofs.Goes.{goes_one}
use Rattle.qa_convert.proofs.Read.{says_one}
use Rattle.qa_convert.specs.Reading.{event_at}
use Rattle.qa_convert.specs.Taking.{progress_of, told_of}
use Rattle.qa_convert.proofs.Faulty.{if_err, of_event_weaker, one_fault}
use Rattle.qa_convert.specs.Faults.{IsFault, IsOneFault, OfEvent, OfRecord}
use Rattle.qa_convert.proofs.converting.Converting.take_event.Goals as goal

pub returns-clause-goes : goal.returns-clause-goes
returns-clause-goes c d finds =
    let old = c.args.self.now in
    let event = c.args.event in
    let s = c.in_ok-said.said in
    let packet = c.of.ensures d finds in
    let says = c.in_ok-said.ensures.says d packet.0 packet.1 in
    let passed = c.in_ok-pass.ensures in
    let other : event.name ≡ name.PacketsLost → ⊥ = λ is.
    let same = rw is at c.eq.ensures in
    let no : true ≡ false = sym same ∙ c.if-eq.false in
    cc in (
      s ∷ [],
      says_one old.head.unit event.name d s other says,
      goes_one (event_at event.at s) (progress_of old) (told_of old) (progress_of c.pass.new.self) (told_of c.pass.new.self) passed.head passed.retry passed.passes,
    )

pub returns-in_err-said-clause-fault : goal.returns-in_err-said-clause-fault
returns-in_err-said-clause-fault c d finds =
    let unit = c.args.self.now.head.unit in
    let n = c.args.event.name in
    let packet = c.of.ensures d finds in
    let other : n ≡ name.PacketsLost → ⊥ = λ is.
    let same = rw is at c.eq.ensures in
    let no : true ≡ false = sym same ∙ c.if-eq.false in
    cc in
    if_err (OfRecord (OfEvent (IsFault unit n d))) c.from_residual.result _ c.from_residual.ensures.1
    (of_event_weaker (IsOneFault unit n d) (IsFault unit n d) _ (λ e is. one_fault unit n d e other is) (c.in_err-said.ensures.fault d packet.0 packet.1))
