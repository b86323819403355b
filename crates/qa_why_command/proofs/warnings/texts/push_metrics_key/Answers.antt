use Rattle.qa_explain.proofs.text_lemmas.Pushed.{last}
use Rattle.qa_why_command.proofs.warnings.texts.push_metrics_key.Goals as goal

pub returns : goal.returns
returns c = last c.push_effect.result _ _ _ _ _ c.in_ok-push_key.ensures c.push_effect.ensures
