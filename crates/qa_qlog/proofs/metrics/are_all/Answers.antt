use Rattle.std.proofs.Common.{◌∙◌, sym}
use Rattle.qa_qlog.proofs.Keyed.{all_end, all_more, all_other}
use Rattle.qa_qlog.proofs.metrics.are_all.Goals as goal

pub loop-name-preserved : goal.loop-name-preserved
loop-name-preserved c ms inside =
    let now = c.loop-name.invariant ms inside in
    let f = c.in-Some.ensures.value now.0 now.1 in
    let same = sym c.is_key.ensures ∙ c.if-not-is_key.false in
    (f.1, f.4, sym (all_more c.args.key.now c.in-Some.name.now now.0 f.1 f.0 f.2 same) ∙ now.2)

pub returns-then-not-is_key : goal.returns-then-not-is_key
returns-then-not-is_key c ms inside =
    let now = c.loop-name.invariant ms inside in
    let f = c.in-Some.ensures.value now.0 now.1 in
    let other = sym c.is_key.ensures ∙ c.if-not-is_key.true in
    sym (all_other c.args.key.now c.in-Some.name.now now.0 f.1 f.0 f.2 other) ∙ now.2

pub returns : goal.returns
returns c ms inside =
    let now = c.loop-name.invariant ms inside in
    sym (all_end c.args.key.now now.0 (c.in_default.ensures.value now.0 now.1)) ∙ now.2
