use Rattle.qa_explain.specs.text.Sending.{due_probe_line}
use Rattle.qa_explain.proofs.text_lemmas.Pushed.{last}
use Rattle.qa_explain.proofs.text.sending.push_due_probe_line.Goals as goal

pub returns : goal.returns
unfolding due_probe_line
returns c = last c.push_words.result _ _ _ _ _ (c.in_ok-push_name.ensures) c.push_words.ensures
