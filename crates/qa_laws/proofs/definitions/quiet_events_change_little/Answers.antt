use Rattle.qa_base.proofs.machine.Quiet as lemmas
use Rattle.qa_laws.proofs.machine.Free as free
use Rattle.qa_laws.proofs.definitions.quiet_events_change_little.Goals as goal

pub returns : goal.returns
returns c = record {
  rtt = lemmas.rtt-quiet;
  moves = lemmas.moves-quiet;
  must = free.must_lose_nothing;
  unnamed = free.unnamed_lose_nothing;
  pto_count = lemmas.pto_count-quiet;
}
