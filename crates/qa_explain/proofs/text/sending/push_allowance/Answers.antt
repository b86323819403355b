use Rattle.qa_explain.specs.text.Sending.{allowance_line}
use Rattle.qa_explain.proofs.text_lemmas.Pushed.{join, last}
use Rattle.qa_explain.proofs.text.sending.push_allowance.Goals as goal

pub returns : goal.returns
unfolding allowance_line
returns c = last c.push_words.result _ _ _ _ _ (join _ _ _ _ _ (join _ _ _ _ _ (c.in_ok-push_number.ensures) c.in_ok-push_wide.ensures) c.in_ok-push_number-2.ensures) c.push_words.ensures
