use Rattle.std.proofs.Common.{◌∙◌, ◌&&◌, ◌++◌, ℕ, List, Bool, Option, sym, ap, take}
use Rattle.std.specs.List.{list_all}
use Rattle.qa_base.specs.machine.Breaches.{numbers}
use Rattle.qa_base.specs.values.Events.{is_named}
use Rattle.qa_base.specs.machine.Packets.{Packet, history_of}
use Rattle.qa_reference.specs.Listed.{listed}
use Rattle.qa_reference.specs.Looks.{is_found_by, found_in, numbers_found}
use Rattle.qa_reference.proofs.Turns.{passing_next, at_end}
use Rattle.qa_reference.proofs.named.all_named.Goals as goal
use Rattle.qa_reference.proofs.named.all_named.Goals.{in-Some+then-not-is_named, in-Some+else-not-is_named, in_default}

pub loop-place-preserved : goal.loop-place-preserved
loop-place-preserved c =
    let h = history_of c.args.events.now in
    let rest = found_in h c.args.look (history_of (take c.loop-place.place c.args.events.now)) in
    let test : ℕ → Bool = is_named c.args.ranges.now in
    let all : List Packet → Bool = λ ps. list_all test (numbers ps) in
    let next = passing_next all (is_found_by h c.args.look) c.args.events.now c.loop-place.place c.index-events-place.result c.found_of.result c.loop-place-test.true c.index-events-place.is c.found_of.ensures in
    let with = λ (r : Option Packet). all (listed r ++ rest) in
    let and = λ (b : Bool). b && all rest in
    let number = λ (p : Packet). test p.number in
    elim c.match-found_of.branch [
      | in-Some+then-not-is_named w ↦ w.all-is ∙ sym (next ∙ (ap with w.in-Some.is ∙ ap and (sym (ap number w.packet.view_is) ∙ (sym w.is_named.ensures ∙ w.if-not-is_named.true))))
      | in-Some+else-not-is_named w ↦ w.all-is ∙ (c.loop-place.invariant ∙ sym (next ∙ (ap with w.in-Some.is ∙ ap and (sym (ap number w.packet.view_is) ∙ (sym w.is_named.ensures ∙ w.if-not-is_named.false)))))
      | in_default w ↦ w.all-is ∙ (c.loop-place.invariant ∙ sym (next ∙ ap with w.in_default.is))
    ]

pub returns : goal.returns
returns c =
    let h = history_of c.args.events.now in
    let test : ℕ → Bool = is_named c.args.ranges.now in
    c.loop-place.invariant ∙ at_end (λ part. list_all test (numbers_found h c.args.look part)) c.args.events.now c.loop-place.place c.loop-place-test.false
