use Rattle.qa_explain.specs.members.Reports.{collapse_facts}
use Rattle.qa_explain.proofs.members_lemmas.Pushed.{join, last}
use Rattle.qa_explain.proofs.members.reports.push_collapse.Goals as goal

pub returns : goal.returns
unfolding collapse_facts
returns c =
    last c.amount-2.result _ _ _ _ _ (join _ _ _ _ _ (join _ _ _ _ _ (c.in_ok-push_bytes.ensures) (rw c.from.ensures at c.in_ok-amount.ensures)) c.in_ok-push_bytes-2.ensures)
    (rw c.from-2.ensures at c.amount-2.ensures)
