use Rattle.std.proofs.Common.{◌∙◌, not, sym, ap}
use Rattle.qa_qlog.specs.Times.{is_nothing}
use Rattle.qa_qlog.proofs.Values.{says_text, says_number, says_bool, says_any}
use Rattle.qa_qlog.proofs.says.says.Goals as goal

pub returns-in-Some : goal.returns-in-Some
returns-in-Some c j begins = ap not c.is_empty.ensures ∙ sym (says_text j c.in-Some.text.now (sym (c.in-Some.ensures j begins)))

pub returns-in-Some-as_number : goal.returns-in-Some-as_number
returns-in-Some-as_number c j begins =
    ap not (c.is_nothing.ensures ∙ ap is_nothing c.as_bytes.ensures.value) ∙ sym (says_number j c.in-Some-as_number.number.now (sym (c.in-Some-as_number.ensures j begins)))

pub returns-in-Some-as_bool : goal.returns-in-Some-as_bool
returns-in-Some-as_bool c j begins = sym (says_bool j c.in-Some-as_bool.is_true (sym (c.in-Some-as_bool.ensures j begins)))

pub returns : goal.returns
returns c j begins =
    c.has_any.ensures j begins
    ∙ sym (says_any j (sym (c.in_default.ensures j begins)) (sym (c.in_default-as_number.ensures j begins)) (sym (c.in_default-as_bool.ensures j begins)))
