use Rattle.qa_violations.specs.allowed.Texts.{eighths_text}
use Rattle.qa_explain.proofs.text_lemmas.Pushed.{last}
use Rattle.qa_violations.proofs.allowed.texts.push_eighths.Goals as goal

pub returns : goal.returns
unfolding eighths_text
returns c = last c.push_words.result _ _ _ _ _ c.in_ok-push_number.ensures c.push_words.ensures
