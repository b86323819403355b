use Rattle.qa_explain.specs.text.Predicates.{passed_text}
use Rattle.qa_explain.proofs.text_lemmas.Pushed.{last}
use Rattle.qa_explain.proofs.text.predicates.push_passed.Goals as goal

pub returns : goal.returns
unfolding passed_text
returns c = last c.push_number.result _ _ _ _ _ (c.in_ok-push_wide.ensures) c.push_number.ensures
