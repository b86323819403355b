use Rattle.qa_violations.specs.allowed.Texts.{end_text}
use Rattle.qa_explain.proofs.text_lemmas.Pushed.{join, last}
use Rattle.qa_violations.proofs.allowed.texts.push_end.Goals as goal

pub returns : goal.returns
unfolding end_text
returns c = last c.push_words-2.result _ _ _ _ _ (join _ _ _ _ _ (join _ _ _ _ _ c.in_ok-push_number.ensures c.in_ok-push_words.ensures) c.in_ok-push_timer.ensures) c.push_words-2.ensures
