use Rattle.std.proofs.Common.{◌∙◌}
use Rattle.qa_qlog.proofs.Spread.{range_empty, range_one, range_two, range_three}
use Rattle.qa_qlog.proofs.acks.range_of.Goals as goal

pub returns-in_default-next : goal.returns-in_default-next
returns-in_default-next c j begins =
    let shape = c.in-Some.ensures j begins in
    range_empty j shape.0 shape.1 (c.in_default-next.ensures.value shape.0 shape.2)

pub returns-in_default-next-2 : goal.returns-in_default-next-2
returns-in_default-next-2 c j begins =
    let shape = c.in-Some.ensures j begins in
    let a = c.in-Some-next.ensures.value shape.0 shape.2 in
    c.single-in_default-next-2.ensures a.0 a.3 ∙ range_one j a.0 shape.0 a.1 shape.1 a.2 (c.in_default-next-2.ensures.value a.1 a.4)

pub returns-in-Some-next-3 : goal.returns-in-Some-next-3
returns-in-Some-next-3 c j begins =
    let shape = c.in-Some.ensures j begins in
    let a = c.in-Some-next.ensures.value shape.0 shape.2 in
    let b = c.in-Some-next-2.ensures.value a.1 a.4 in
    let d = c.in-Some-next-3.ensures.value b.1 b.4 in
    range_three j a.0 b.0 d.0 shape.0 a.1 b.1 d.1 shape.1 a.2 b.2 d.2

pub returns-in-None : goal.returns-in-None
returns-in-None c j begins =
    let shape = c.in-Some.ensures j begins in
    let a = c.in-Some-next.ensures.value shape.0 shape.2 in
    let b = c.in-Some-next-2.ensures.value a.1 a.4 in
    c.span.ensures a.0 b.0 a.3 b.3 ∙ range_two j a.0 b.0 shape.0 a.1 b.1 shape.1 a.2 b.2 (c.in-None.ensures.value b.1 b.4)
