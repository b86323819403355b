use Rattle.qa_violations.specs.allowed.Texts.{many_guessed}
use Rattle.qa_explain.proofs.text_lemmas.Pushed.{join, last}
use Rattle.qa_violations.proofs.allowed.texts.push_many_guessed.Goals as goal

pub returns : goal.returns
unfolding many_guessed
returns c = last c.push_words.result _ _ _ _ _ (join _ _ _ _ _ c.in_ok-push_number.ensures c.in_ok-push_number-2.ensures) c.push_words.ensures
