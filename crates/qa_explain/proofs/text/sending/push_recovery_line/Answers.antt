use Rattle.qa_explain.specs.text.Sending.{recovery_line}
use Rattle.qa_explain.proofs.text_lemmas.Pushed.{last}
use Rattle.qa_explain.proofs.text.sending.push_recovery_line.Goals as goal

pub returns : goal.returns
unfolding recovery_line
returns c = last c.push_words.result _ _ _ _ _ (c.in_ok-push_number.ensures) c.push_words.ensures
