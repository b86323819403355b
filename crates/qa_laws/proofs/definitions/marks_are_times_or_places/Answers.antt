use Rattle.qa_laws.proofs.machine.Marks as lemmas
use Rattle.qa_laws.proofs.definitions.marks_are_times_or_places.Goals as goal

pub returns : goal.returns
returns c = record {
  sent_time = lemmas.sent_time;
  event_time = lemmas.event_time;
  sent_place = lemmas.sent_place;
  event_place = lemmas.event_place;
}
