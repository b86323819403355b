use Rattle.qa_violations.specs.allowed.Texts.{often_text}
use Rattle.qa_explain.proofs.text_lemmas.Pushed.{join, last}
use Rattle.qa_violations.proofs.allowed.texts.push_often.Goals as goal

pub returns : goal.returns
unfolding often_text
returns c = last c.push_number-3.result _ _ _ _ _ (join _ _ _ _ _ (c.in_ok-push_number.ensures) c.in_ok-push_number-2.ensures) c.push_number-3.ensures
