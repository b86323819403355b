use Rattle.qa_explain.specs.text.Sentences.{late_sentence}
use Rattle.qa_explain.proofs.text_lemmas.Pushed.{join, last}
use Rattle.qa_explain.proofs.text.sentences.push_late.Goals as goal

pub returns : goal.returns
unfolding late_sentence
returns c = last c.push_words.result _ _ _ _ _ (join _ _ _ _ _ (c.in_ok-push_timed.ensures) c.in_ok-push_timed-2.ensures) c.push_words.ensures
