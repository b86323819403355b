use Rattle.qa_explain.specs.text.Sending.{window_line}
use Rattle.qa_explain.proofs.text_lemmas.Pushed.{join, last}
use Rattle.qa_explain.proofs.text.sending.push_window_line.Goals as goal

pub returns : goal.returns
unfolding window_line
returns c = last c.push_words.result _ _ _ _ _ (join _ _ _ _ _ (join _ _ _ _ _ (join _ _ _ _ _ (c.in_ok-push_number.ensures) c.in_ok-push_number-2.ensures) (rw (c.from.ensures, c.from-2.ensures) at c.in_ok-push_wide.ensures)) c.in_ok-push_number-3.ensures) (rw c.overshoot_text.ensures at c.push_words.ensures)
