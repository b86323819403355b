use Rattle.qa_violations.specs.around.Texts.{congestion_text}
use Rattle.qa_explain.proofs.text_lemmas.Pushed.{join, last}
use Rattle.qa_violations.proofs.around.row.push_congestion.Goals as goal

pub returns : goal.returns
unfolding congestion_text
returns c = last c.push_threshold.result _ _ _ _ _ (join _ _ _ _ _ (c.in_ok-push_number.ensures) c.in_ok-push_number-2.ensures) c.push_threshold.ensures
