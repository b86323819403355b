use Rattle.qa_reference.proofs.questions.has_nameable_in.Goals as goal

pub returns : goal.returns
returns c = cc
