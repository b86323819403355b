use Rattle.std.proofs.Common.{◌∙◌, sym}
use Rattle.qa_qlog.proofs.Keyed.{only_end, only_more, only_other}
use Rattle.qa_qlog.proofs.metrics.are_only.Goals as goal

pub returns-then-is_key : goal.returns-then-is_key
returns-then-is_key c ms inside =
    let f = c.in-Some.ensures.value ms inside in
    let same = sym c.is_key.ensures ∙ c.if-is_key.true in
    c.are_all.ensures f.1 f.4 ∙ sym (only_more c.args.key.now c.in-Some.first.now ms f.1 f.0 f.2 same)

pub returns-else-is_key : goal.returns-else-is_key
returns-else-is_key c ms inside =
    let f = c.in-Some.ensures.value ms inside in
    let other = sym c.is_key.ensures ∙ c.if-is_key.false in
    c.if-is_key.false ∙ sym (only_other c.args.key.now c.in-Some.first.now ms f.1 f.0 f.2 other)

pub returns-in-None : goal.returns-in-None
returns-in-None c ms inside = sym (only_end c.args.key.now ms (c.in-None.ensures.value ms inside))
