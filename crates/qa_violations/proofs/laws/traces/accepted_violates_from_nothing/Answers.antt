use Rattle.qa_violations.proofs.laws_lemmas.Accepted.{object_of_accepted, outcome_of_accepted, text_of_accepted}
use Rattle.qa_violations.proofs.laws.traces.accepted_violates_from_nothing.Goals as goal

pub returns : goal.returns
returns c = record { text = text_of_accepted; object = object_of_accepted; outcome = outcome_of_accepted }
