use Rattle.qa_laws.proofs.machine.BySpace as lemmas
use Rattle.qa_laws.proofs.running.closed_are_of_one_space.Goals as goal

pub returns : goal.returns
returns c = record {
  owed = lemmas.owed_are_of;
  sizes = lemmas.owed_bytes;
  newly = lemmas.newly_are_of;
  within = lemmas.bytes_of_space;
  others = lemmas.bytes_of_other;
}
