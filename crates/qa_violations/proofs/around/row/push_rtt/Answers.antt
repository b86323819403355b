use Rattle.qa_violations.specs.around.Texts.{rtt_text}
use Rattle.qa_explain.proofs.text_lemmas.Pushed.{join, last}
use Rattle.qa_violations.proofs.around.row.push_rtt.Goals as goal

pub returns : goal.returns
unfolding rtt_text
returns c = last c.push_number-4.result _ _ _ _ _ (join _ _ _ _ _ (join _ _ _ _ _ (c.in_ok-push_number.ensures) c.in_ok-push_number-2.ensures) c.in_ok-push_number-3.ensures) c.push_number-4.ensures
