use Rattle.qa_explain.specs.members.Reports.{differences}
use Rattle.qa_explain.proofs.members_lemmas.Pushed.{join, last}
use Rattle.qa_explain.proofs.members.reports.push_differences.Goals as goal

pub returns : goal.returns
unfolding differences
returns c =
    last c.end_list.result _ _ _ _ _ (join _ _ _ _ _ (join _ _ _ _ _ (join _ _ _ _ _ (c.in_ok-begin_list.ensures) c.in_ok-push_of_bytes.ensures) (rw c.name.ensures at c.in_ok-push_of_samples.ensures))
    (rw c.name-2.ensures at c.in_ok-push_of_estimates.ensures)) c.end_list.ensures
