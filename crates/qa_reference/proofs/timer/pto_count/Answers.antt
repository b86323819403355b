use Rattle.std.proofs.Common.{◌∙◌, ◌∷◌, ◌+◌, Bool, false, sym, ap, arith, take}
use Rattle.std.specs.Prelude.{if◌then◌else◌}
use Rattle.qa_base.specs.machine.Packets.{history_of}
use Rattle.qa_base.specs.machine.Timer.{pto_count, is_pto}
use Rattle.qa_base.proofs.machine.Steps.{pto_count_after}
use Rattle.qa_reference.proofs.Turns.{one_more}
use Rattle.qa_reference.proofs.timer.pto_count.Goals as goal
use Rattle.qa_reference.proofs.timer.pto_count.Goals.{then-resets_count, else-resets_count+then-is_pto, else-resets_count+else-is_pto}

pub loop-place-preserved : goal.loop-place-preserved
loop-place-preserved c =
    let e = c.index-events-place.result in
    let before = history_of (take c.loop-place.place c.args.events.now) in
    let one = one_more c.args.events.now c.loop-place.place e c.loop-place-test.true c.index-events-place.is in
    let next = ap (pto_count c.args.header.now) one ∙ pto_count_after c.args.header.now e before in
    let by = λ (resets pto : Bool). if resets then 0 else (if pto then 1 else 0) + pto_count c.args.header.now before in
    let resets = λ (r : Bool). by r (is_pto (e ∷ before)) in
    let was = c.loop-place.invariant.value in
    elim c.if-resets_count.branch [
      | then-resets_count w ↦ record {
        value = w.count-is ∙ sym (next ∙ ap resets (sym c.resets_count.ensures ∙ w.if-resets_count.true));
        bound = omega arith;
      }
      | else-resets_count+then-is_pto w ↦
          let now = next ∙ (ap resets (sym c.resets_count.ensures ∙ w.if-resets_count.false) ∙ ap (by false) (sym (w.is_pto.ensures before) ∙ w.if-is_pto.true)) in
          record { value = omega (arith, now, was); bound = omega arith }
      | else-resets_count+else-is_pto w ↦
          let now = next ∙ (ap resets (sym c.resets_count.ensures ∙ w.if-resets_count.false) ∙ ap (by false) (sym (w.is_pto.ensures before) ∙ w.if-is_pto.false)) in
          record { value = omega (arith, now, was); bound = omega arith }
    ]
