use Rattle.qa_violations.proofs.laws_lemmas.Agreement.{accepted_unviolated, first_is, outcome_accepted, refused_unviolated, unreadable_unviolated, unviolated_accepted}
use Rattle.qa_violations.proofs.laws.traces.verdict_and_violations_agree.Goals as goal

pub returns : goal.returns
returns c = record {
  accepted = accepted_unviolated;
  unviolated = unviolated_accepted;
  outcome = outcome_accepted;
  first = first_is;
  refused = refused_unviolated;
  unreadable = unreadable_unviolated;
}
