use Rattle.qa_laws.proofs.machine.Free as lemmas
use Rattle.qa_laws.proofs.conduct.free_packets_are_young.Goals as goal

pub returns : goal.returns
returns c = record {
  young = lemmas.free_is_young;
  far = lemmas.free_is_far;
  apart = lemmas.free_is_apart;
  flying = lemmas.free_flies;
  behind = lemmas.none_is_free;
}
