use Rattle.qa_laws.proofs.machine.Bytes as lemmas
use Rattle.qa_laws.proofs.running.bytes_after_an_event.Goals as goal

pub returns : goal.returns
returns c = record {
  ack = lemmas.bytes-ack;
  timer = lemmas.bytes-timer;
  discard = lemmas.bytes-discard;
  quiet = lemmas.bytes-quiet;
}
