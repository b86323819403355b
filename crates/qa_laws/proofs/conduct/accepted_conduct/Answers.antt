use Rattle.qa_format.proofs.format.ProperReadings as readings
use Rattle.qa_format.specs.format.Reading.{reading}
use Rattle.qa_laws.proofs.verdicts.ConductOfTraces as lemmas
use Rattle.qa_laws.proofs.conduct.accepted_conduct.Goals as goal

pub returns : goal.returns
returns c = record { runs = lemmas.conduct_of_run; accepted = λ bytes t. lemmas.accepted_conduct reading bytes t readings.reading_is_proper }
