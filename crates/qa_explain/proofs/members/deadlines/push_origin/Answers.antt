use Rattle.qa_explain.specs.members.Deadlines.{origin}
use Rattle.qa_explain.proofs.members_lemmas.Pushed.{last}
use Rattle.qa_explain.proofs.members.deadlines.push_origin.Goals as goal

pub returns : goal.returns
unfolding origin
returns c =
    last c.amount.result _ _ _ _ _ (c.in_ok-string.ensures) (rw (c.name.ensures, c.from.ensures) at c.amount.ensures)
