use Rattle.qa_explain.specs.members.Deadlines.{timeout}
use Rattle.qa_explain.proofs.members_lemmas.Pushed.{join, last}
use Rattle.qa_explain.proofs.members.deadlines.push_timeout.Goals as goal

pub returns : goal.returns
unfolding timeout
returns c =
    last c.number.result _ _ _ _ _ (join _ _ _ _ _ (join _ _ _ _ _ (rw (c.name.ensures, c.from.ensures) at c.in_ok-amount.ensures) (rw (c.name-2.ensures, c.from-2.ensures) at c.in_ok-amount-2.ensures))
    (rw (c.name-3.ensures, c.from-3.ensures) at c.in_ok-amount-3.ensures)) (rw c.from-4.ensures at c.number.ensures)
