use Rattle.qa_base.proofs.machine.WindowBound as lemmas
use Rattle.qa_laws.proofs.definitions.bytes_in_flight_are_bounded.Goals as goal

pub returns : goal.returns
returns c = lemmas.flight_bound
