use Rattle.qa_explain.specs.members.Sources.{source_members}
use Rattle.qa_explain.proofs.members_lemmas.Pushed.{last}
use Rattle.qa_explain.proofs.members.sources.push_source.Goals as goal

pub returns : goal.returns
unfolding source_members
returns c =
    last c.string-2.result _ _ _ _ _ (rw c.requirement.ensures at c.in_ok-string.ensures) (rw c.section.ensures at c.string-2.ensures)
