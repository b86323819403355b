use Rattle.qa_explain.specs.text.Deadlines.{timeout_text}
use Rattle.qa_explain.proofs.text_lemmas.Pushed.{join, last}
use Rattle.qa_explain.proofs.text.deadlines.push_timeout.Goals as goal

pub returns : goal.returns
unfolding timeout_text
returns c = last c.push_words.result _ _ _ _ _ (join _ _ _ _ _ (join _ _ _ _ _ (join _ _ _ _ _ (c.in_ok-push_number.ensures) c.in_ok-push_number-2.ensures) c.in_ok-push_number-3.ensures) c.in_ok-push_number-4.ensures) c.push_words.ensures
