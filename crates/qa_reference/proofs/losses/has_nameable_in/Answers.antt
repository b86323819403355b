use Rattle.std.proofs.Common.{◌≡◌, ◌∙◌, ◌||◌, ◌++◌, Bool, true, false, Option, sym, ap, take, rules}
use Rattle.std.specs.List.{list_any}
use Rattle.qa_base.specs.machine.Packets.{Packet, history_of, is_of}
use Rattle.qa_reference.specs.Listed.{listed}
use Rattle.qa_reference.specs.Looks.{is_nameable_by, nameable_in}
use Rattle.qa_reference.proofs.Taken.{nameable_seen}
use Rattle.qa_reference.proofs.Turns.{passing_next, at_end}
use Rattle.qa_reference.proofs.losses.has_nameable_in.Goals as goal
use Rattle.qa_reference.proofs.losses.has_nameable_in.Goals.{in-Some+then-eq, in-Some+else-eq, in_default}

pub loop-place-preserved : goal.loop-place-preserved
loop-place-preserved c =
    let h = history_of c.args.events.now in
    let rest = nameable_in h c.args.look (history_of (take c.loop-place.place c.args.events.now)) in
    let test = is_of c.args.space in
    let any = list_any test in
    let next = passing_next any (is_nameable_by h c.args.look) c.args.events.now c.loop-place.place c.index-events-place.result c.nameable_of.result c.loop-place-test.true c.index-events-place.is c.nameable_of.ensures in
    let with = λ (r : Option Packet). any (listed r ++ rest) in
    let or = λ (b : Bool). b || any rest in
    elim c.match-nameable_of.branch [
      | in-Some+then-eq w ↦ (let here : test w.in-Some.packet ≡ true = search rules in w.found-is ∙ sym (next ∙ (ap with w.in-Some.is ∙ ap or here)))
      | in-Some+else-eq w ↦ (let other : test w.in-Some.packet ≡ false = search rules in w.found-is ∙ (c.loop-place.invariant ∙ sym (next ∙ (ap with w.in-Some.is ∙ ap or other))))
      | in_default w ↦ w.found-is ∙ (c.loop-place.invariant ∙ sym (next ∙ ap with w.in_default.is))
    ]

pub returns : goal.returns
returns c =
    let h = history_of c.args.events.now in
    let test = is_of c.args.space in
    c.loop-place.invariant ∙ (at_end (λ part. list_any test (nameable_in h c.args.look part)) c.args.events.now c.loop-place.place c.loop-place-test.false
    ∙ sym (ap (list_any test) (nameable_seen c.args.header.now h c.args.look c.requires.seen)))
