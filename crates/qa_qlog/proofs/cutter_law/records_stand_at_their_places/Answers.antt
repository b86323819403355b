use Rattle.qa_qlog.proofs.Places.{stand_at_their_places}
use Rattle.qa_qlog.proofs.cutter_law.records_stand_at_their_places.Goals as goal

pub returns : goal.returns
returns c = stand_at_their_places
