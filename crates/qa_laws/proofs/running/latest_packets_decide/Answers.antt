use Rattle.qa_laws.proofs.machine.Samples as lemmas
use Rattle.qa_laws.proofs.running.latest_packets_decide.Goals as goal

pub returns : goal.returns
returns c = record {
  sampled = lemmas.sampled_is_first;
  number = lemmas.above_is_latest;
  owed = lemmas.latest_owed;
}
