use Rattle.std.proofs.Common.{arith}
use Rattle.qa_scan.proofs.Lanes.{late_is, late_rest}
use Rattle.qa_scan.proofs.short.late_integer.Goals as goal

pub slice_bounds-result-count : goal.slice_bounds-result-count
slice_bounds-result-count c =
    let found = c.number_ahead-n.ensures in
    (late_is c.args.bytes.now c.sixteen_from.result c.args.place c.number_ahead-n.result.0 c.number_ahead-n.result.1 c.sixteen_from.ensures.long c.requires.near.0 c.requires.near.1 c.sixteen_from.ensures.places found.short found.digits (omega (arith, c.if-n-eq0.false))).0

pub slice_bounds-result-start : goal.slice_bounds-result-start
slice_bounds-result-start c =
    let found = c.number_ahead-n.ensures in
    (late_is c.args.bytes.now c.sixteen_from.result c.args.place c.number_ahead-n.result.0 c.number_ahead-n.result.1 c.sixteen_from.ensures.long c.requires.near.0 c.requires.near.1 c.sixteen_from.ensures.places found.short found.digits (omega (arith, c.if-n-eq0.false))).0

pub returns : goal.returns
returns c =
    let bs = c.args.bytes.now in
    let found = c.number_ahead-n.ensures in
    let late = late_is bs c.sixteen_from.result c.args.place c.number_ahead-n.result.0 c.number_ahead-n.result.1 c.sixteen_from.ensures.long c.requires.near.0 c.requires.near.1 c.sixteen_from.ensures.places found.short found.digits (omega (arith, c.if-n-eq0.false)) in
    (late_rest bs c.args.place _ _ late.0 late.1, omega (arith, found.short.small))
