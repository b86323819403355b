use Rattle.qa_explain.specs.members.Sending.{window_facts}
use Rattle.qa_explain.proofs.members_lemmas.Pushed.{join, last}
use Rattle.qa_explain.proofs.members.sending.push_window.Goals as goal

pub returns : goal.returns
unfolding window_facts
returns c =
    last c.flag.result _ _ _ _ _ (join _ _ _ _ _ (rw c.from.ensures at c.in_ok-amount.ensures) (rw c.from-2.ensures at c.in_ok-amount-2.ensures)) c.flag.ensures
