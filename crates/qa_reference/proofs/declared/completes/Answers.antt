use Rattle.std.proofs.Common.{◌∙◌, ◌||◌, ◌++◌, List, Bool, Option, sym, ap, take}
use Rattle.std.specs.List.{list_any}
use Rattle.qa_base.specs.machine.Packets.{Packet, history_of, packets}
use Rattle.qa_reference.specs.Listed.{listed}
use Rattle.qa_reference.specs.Looks.{is_named_by}
use Rattle.qa_reference.proofs.Turns.{packet_next, at_end}
use Rattle.qa_reference.proofs.declared.completes.Goals as goal
use Rattle.qa_reference.proofs.declared.completes.Goals.{in-Some+then-is_named_free, in-Some+else-is_named_free, in_default}

pub loop-place-preserved : goal.loop-place-preserved
loop-place-preserved c =
    let test = is_named_by (history_of c.args.before.now) c.args.look c.args.event.now in
    let rest = packets (history_of (take c.loop-place.place c.args.before.now)) in
    let any : List Packet → Bool = list_any test in
    let next = packet_next any c.args.before.now c.loop-place.place c.index-before-place.result c.packet_of.result c.loop-place-test.true c.index-before-place.is c.packet_of.ensures in
    let with = λ (r : Option Packet). any (listed r ++ rest) in
    let or = λ (b : Bool). b || any rest in
    elim c.match-packet_of.branch [
      | in-Some+then-is_named_free w ↦ w.found-is ∙ sym (next ∙ (ap with w.in-Some.is ∙ ap or (sym w.is_named_free.ensures ∙ w.if-is_named_free.true)))
      | in-Some+else-is_named_free w ↦ w.found-is ∙ (c.loop-place.invariant ∙ sym (next ∙ (ap with w.in-Some.is ∙ ap or (sym w.is_named_free.ensures ∙ w.if-is_named_free.false))))
      | in_default w ↦ w.found-is ∙ (c.loop-place.invariant ∙ sym (next ∙ ap with w.in_default.is))
    ]

pub returns : goal.returns
returns c =
    let test = is_named_by (history_of c.args.before.now) c.args.look c.args.event.now in
    c.loop-place.invariant ∙ at_end (λ part. list_any test (packets part)) c.args.before.now c.loop-place.place c.loop-place-test.false
