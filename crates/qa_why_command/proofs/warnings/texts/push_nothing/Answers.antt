use Rattle.qa_explain.proofs.text_lemmas.Pushed.{last}
use Rattle.qa_why_command.specs.warnings.Texts.{nothing}
use Rattle.qa_why_command.proofs.warnings.texts.push_nothing.Goals as goal

pub returns : goal.returns
unfolding nothing
returns c =
    let asked = rw (c.as_bytes.ensures.value, c.in_ok-question.ensures, c.in_ok-near.ensures) at c.extend-2.ensures in
    last c.extend-2.result _ _ _ _ _ c.in_ok-extend.ensures asked
