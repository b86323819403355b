use Rattle.std.proofs.Common.{◌∙◌, ◌&&◌, ◌++◌, ℕ, List, Bool, Option, sym, ap, take}
use Rattle.std.specs.List.{list_all}
use Rattle.qa_base.specs.machine.Breaches.{numbers}
use Rattle.qa_base.specs.machine.Numbers.{has_next}
use Rattle.qa_base.specs.machine.Packets.{Packet, history_of}
use Rattle.qa_reference.specs.Listed.{listed}
use Rattle.qa_reference.specs.Looks.{is_nameable_by, nameable_in, numbers_nameable}
use Rattle.qa_reference.proofs.Turns.{passing_next, at_end}
use Rattle.qa_reference.proofs.named.has_no_gap.Goals as goal
use Rattle.qa_reference.proofs.named.has_no_gap.Goals.{in-Some+then-not-has_next, in-Some+else-not-has_next, in_default}

pub loop-place-preserved : goal.loop-place-preserved
loop-place-preserved c =
    let h = history_of c.args.events.now in
    let rest = nameable_in h c.args.look (history_of (take c.loop-place.place c.args.events.now)) in
    let test : ℕ → Bool = has_next (numbers_nameable h c.args.look h) c.args.range.0 c.args.range.1 in
    let all : List Packet → Bool = λ ps. list_all test (numbers ps) in
    let next = passing_next all (is_nameable_by h c.args.look) c.args.events.now c.loop-place.place c.index-events-place.result c.nameable_of.result c.loop-place-test.true c.index-events-place.is c.nameable_of.ensures in
    let with = λ (r : Option Packet). all (listed r ++ rest) in
    let and = λ (b : Bool). b && all rest in
    let number = λ (p : Packet). test p.number in
    elim c.match-nameable_of.branch [
      | in-Some+then-not-has_next w ↦ w.all-is ∙ sym (next ∙ (ap with w.in-Some.is ∙ ap and (sym (ap number w.packet.view_is) ∙ (sym w.has_next.ensures ∙ w.if-not-has_next.true))))
      | in-Some+else-not-has_next w ↦ w.all-is ∙ (c.loop-place.invariant ∙ sym (next ∙ (ap with w.in-Some.is ∙ ap and (sym (ap number w.packet.view_is) ∙ (sym w.has_next.ensures ∙ w.if-not-has_next.false)))))
      | in_default w ↦ w.all-is ∙ (c.loop-place.invariant ∙ sym (next ∙ ap with w.in_default.is))
    ]

pub returns : goal.returns
returns c =
    let h = history_of c.args.events.now in
    let test : ℕ → Bool = has_next (numbers_nameable h c.args.look h) c.args.range.0 c.args.range.1 in
    c.loop-place.invariant ∙ at_end (λ part. list_all test (numbers_nameable h c.args.look part)) c.args.events.now c.loop-place.place c.loop-place-test.false
