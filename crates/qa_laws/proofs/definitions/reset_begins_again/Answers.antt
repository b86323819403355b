use Rattle.qa_laws.proofs.machine.Congested as lemmas
use Rattle.qa_laws.proofs.definitions.reset_begins_again.Goals as goal

pub returns : goal.returns
returns c = record {
  start = lemmas.begins_again;
  latest = lemmas.latest_stays;
  sample = lemmas.sampled_first;
  ends = lemmas.no_end;
}
