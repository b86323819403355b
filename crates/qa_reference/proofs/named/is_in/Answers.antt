use Rattle.std.proofs.Common.{◌≡◌, ◌∙◌, ◌||◌, ◌++◌, List, Bool, true, false, Option, sym, ap, take, rules}
use Rattle.std.specs.Prelude.{◌==◌}
use Rattle.qa_base.specs.machine.Breaches.{numbers}
use Rattle.qa_base.specs.machine.Numbers.{is_in}
use Rattle.qa_base.specs.machine.Packets.{Packet, history_of}
use Rattle.qa_reference.specs.Listed.{listed}
use Rattle.qa_reference.specs.Looks.{is_nameable_by, nameable_in, numbers_nameable}
use Rattle.qa_reference.proofs.Turns.{passing_next, at_end}
use Rattle.qa_reference.proofs.named.is_in.Goals as goal
use Rattle.qa_reference.proofs.named.is_in.Goals.{in-Some+then-get-wanted, in-Some+else-get-wanted, in_default}

pub loop-place-preserved : goal.loop-place-preserved
loop-place-preserved c =
    let h = history_of c.args.events.now in
    let rest = nameable_in h c.args.look (history_of (take c.loop-place.place c.args.events.now)) in
    let any : List Packet → Bool = λ ps. is_in (numbers ps) c.args.wanted in
    let next = passing_next any (is_nameable_by h c.args.look) c.args.events.now c.loop-place.place c.index-events-place.result c.nameable_of.result c.loop-place-test.true c.index-events-place.is c.nameable_of.ensures in
    let with = λ (r : Option Packet). any (listed r ++ rest) in
    let or = λ (b : Bool). b || any rest in
    elim c.match-nameable_of.branch [
      | in-Some+then-get-wanted w ↦ (let here : (w.in-Some.packet.number == c.args.wanted) ≡ true = search rules in w.found-is ∙ sym (next ∙ (ap with w.in-Some.is ∙ ap or here)))
      | in-Some+else-get-wanted w ↦ (let other : (w.in-Some.packet.number == c.args.wanted) ≡ false = search rules in w.found-is ∙ (c.loop-place.invariant ∙ sym (next ∙ (ap with w.in-Some.is ∙ ap or other))))
      | in_default w ↦ w.found-is ∙ (c.loop-place.invariant ∙ sym (next ∙ ap with w.in_default.is))
    ]

pub returns : goal.returns
returns c =
    let h = history_of c.args.events.now in
    c.loop-place.invariant ∙ at_end (λ part. is_in (numbers_nameable h c.args.look part) c.args.wanted) c.args.events.now c.loop-place.place c.loop-place-test.false
