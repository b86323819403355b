use Rattle.qa_laws.proofs.machine.Useful as useful
use Rattle.qa_laws.proofs.running.kept_after_an_event.Goals as goal

pub returns : goal.returns
returns c = record {
  is = useful.kept_is;
  dropped = useful.dropped_stays;
  sent = useful.kept_sent;
  other = useful.kept_after;
  falls = useful.kept_falls;
  stays = useful.kept_stays;
}
