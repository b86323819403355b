use Rattle.qa_violations.proofs.laws_lemmas.Sums as lemmas
use Rattle.qa_violations.proofs.laws.terms.deadlines_are_their_terms.Goals as goal

pub returns : goal.returns
returns c = lemmas.deadline_terms
