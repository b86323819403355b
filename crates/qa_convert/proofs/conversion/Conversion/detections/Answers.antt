use Rattle.std.proofs.Common.{◌≤◌, ◌∙◌, ◌-◌, ap, arith, drop, length, take}
use Rattle.qa_convert.proofs.Losses.{detected_all, detected_more}
use Rattle.qa_convert.proofs.Stated.{rules_all, rules_part}
use Rattle.qa_convert.specs.Rules.{rules_of, rules_stated}
use Rattle.qa_convert.proofs.conversion.Conversion.detections.Goals as goal
use Rattle.qa_convert.proofs.conversion.Conversion.detections.Goals.{in-Some+then-gap-saturating_sub+then-begun-place+in_ok-detected, in-Some+else-gap-saturating_sub, in_default}

pub loop-place-preserved : goal.loop-place-preserved
loop-place-preserved c =
    let was = c.loop-place.invariant in
    let end : c.loop-place.place ≤ length c.args.events.now = omega arith in
    elim c.match-last.branch [
      | in-Some+then-gap-saturating_sub+then-begun-place+in_ok-detected w ↦
          let line = rw was.bare at w.in_ok-detected.ensures.lost in
          rw (w.self-is, w.begun-is) (record {
            begun = end;
            sent = w.in_ok-detected.ensures.sent ∙ was.sent;
            timers = w.in_ok-detected.ensures.timers ∙ was.timers;
            keys = w.in_ok-detected.ensures.keys ∙ was.keys;
            acks = w.in_ok-detected.ensures.acks ∙ was.acks;
            rules = w.in_ok-detected.ensures.rules
                ∙ ap (rules_stated (take (c.loop-place.place - c.loop-place.begun) (drop c.loop-place.begun c.args.events.now))) was.rules
                ∙ rules_part c.loop-place.begun c.loop-place.place c.args.events.now (rules_of c.args.self.now) w.if-begun-place.true;
            bare = w.in_ok-detected.ensures.bare ∙ was.bare;
            lost = detected_more c.args.self.now.writing.bare c.loop-place.begun c.loop-place.place c.args.events.now _ _ _ w.if-begun-place.true was.lost line;
          })
      | in-Some+else-gap-saturating_sub w ↦ rw (w.self-is, w.begun-is) was
      | in_default w ↦ rw (w.self-is, w.begun-is) was
    ]

pub returns-in_ok-detected-2-clause-rules : goal.returns-in_ok-detected-2-clause-rules
returns-in_ok-detected-2-clause-rules c =
    let was = c.loop-place.invariant in
    let es = c.args.events.now in
    let i = c.loop-place.begun in
    c.in_ok-detected-2.ensures.rules ∙ ap (rules_stated (take (length es - i) (drop i es))) was.rules ∙ rules_all c.loop-place.begun c.args.events.now (rules_of c.args.self.now) was.begun

pub returns-in_ok-detected-2-clause-lost : goal.returns-in_ok-detected-2-clause-lost
returns-in_ok-detected-2-clause-lost c =
    let was = c.loop-place.invariant in
    let line = rw was.bare at c.in_ok-detected-2.ensures.lost in
    detected_all c.args.self.now.writing.bare c.loop-place.begun c.args.events.now _ _ _ was.begun was.lost line
