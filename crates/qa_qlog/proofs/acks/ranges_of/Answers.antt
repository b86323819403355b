use Rattle.std.proofs.Common.{◌≡◌, ◌∙◌, Ok, Err, sym, ap}
use Rattle.qa_qlog.specs.Acks.{range_of, ranges_of}
use Rattle.qa_qlog.specs.Frames.{listed}
use Rattle.qa_qlog.proofs.Spread.{before, pushed, nothing_before, range_more, range_bad, ranges_end}
use Rattle.qa_qlog.proofs.acks.ranges_of.Goals as goal

pub loop-item-init : goal.loop-item-init
loop-item-init c js inside =
    (js, inside, ap (λ had. before had (ranges_of (listed js))) c.new-ranges.ensures ∙ nothing_before (ranges_of (listed js)))

pub loop-item-preserved : goal.loop-item-preserved
loop-item-preserved c js inside =
    let now = c.loop-item.invariant js inside in
    let f = c.in-Some.ensures.value now.0 now.1 in
    let good : range_of f.0 ≡ Ok c.in-Ok.range = sym (c.in-Ok.ensures f.0 f.3) in
    let push = pushed c.push.result _ (sym c.if-is_err.false ∙ c.is_err.ensures.value) c.push.ensures.ok in (
      f.1,
      f.4,
      ap (λ had. before had (ranges_of (listed f.1))) push ∙ range_more c.loop-item.ranges c.in-Ok.range now.0 f.1 f.0 f.2 good ∙ now.2,
    )

pub returns-in-Err : goal.returns-in-Err
returns-in-Err c js inside =
    let now = c.loop-item.invariant js inside in
    let f = c.in-Some.ensures.value now.0 now.1 in
    let bad : range_of f.0 ≡ Err c.in-Err.fault = sym (c.in-Err.ensures f.0 f.3) in
    sym now.2 ∙ range_bad c.loop-item.ranges c.in-Err.fault now.0 f.1 f.0 f.2 bad

pub returns : goal.returns
returns c js inside =
    let now = c.loop-item.invariant js inside in
    let done = c.in_default.ensures.value now.0 now.1 in
    sym now.2 ∙ ranges_end c.loop-item.ranges now.0 done
