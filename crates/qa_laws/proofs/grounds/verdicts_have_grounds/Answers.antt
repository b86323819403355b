use Rattle.qa_laws.proofs.verdicts.GroundsFound as lemmas
use Rattle.qa_laws.proofs.grounds.verdicts_have_grounds.Goals as goal

pub returns : goal.returns
returns c = record {
  refused = lemmas.refused_exactly;
  unreadable = lemmas.unreadable_exactly;
  each = lemmas.exactly_its_ground;
  of_event = lemmas.never_owed_at_end;
  one_refusal = lemmas.breaks_or_owes;
  one_fault = lemmas.fails_or_says_nothing;
}
