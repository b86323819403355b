use Rattle.std.proofs.Common.{◌∙◌, sym, ap}
use Rattle.qa_qlog.specs.Says.{has_any}
use Rattle.qa_qlog.proofs.Values.{some_item, some_member, mapped_some, any_none}
use Rattle.qa_qlog.proofs.says.has_any.Goals as goal

pub returns-in-Some : goal.returns-in-Some
returns-in-Some c j begins =
    let shape = c.in-Some.ensures j begins in
    c.is_some.ensures ∙ some_item _ _ _ shape.0 c.next.ensures.value shape.2 ∙ sym (ap has_any shape.1)

pub returns-in-Some-members : goal.returns-in-Some-members
returns-in-Some-members c j begins =
    let shape = c.in-Some-members.ensures j begins in
    c.is_some-in-Some-members.ensures ∙ sym (mapped_some (λ m. (m.0.now, m.1)) c.next-in-Some-members.result)
    ∙ some_member _ _ _ shape.0 c.next-in-Some-members.ensures.value shape.2 ∙ sym (ap has_any shape.1)

pub returns-in-None : goal.returns-in-None
returns-in-None c j begins = sym (any_none j (c.in_default.ensures j begins) (c.in-None.ensures j begins))
