use Rattle.qa_explain.specs.text.Reports.{collapse_line}
use Rattle.qa_explain.proofs.text_lemmas.Pushed.{join, last}
use Rattle.qa_explain.proofs.text.reports.push_collapse_line.Goals as goal

pub returns : goal.returns
unfolding collapse_line
returns c = last c.push_words.result _ _ _ _ _ (join _ _ _ _ _ (join _ _ _ _ _ (join _ _ _ _ _ (join _ _ _ _ _ (c.in_ok-push_number.ensures) c.in_ok-push_number-2.ensures) c.in_ok-push_number-3.ensures) c.in_ok-push_number-4.ensures) (rw (c.from.ensures, c.from-2.ensures, c.from-3.ensures) at c.in_ok-push_wide.ensures)) c.push_words.ensures
