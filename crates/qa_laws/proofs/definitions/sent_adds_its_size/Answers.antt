use Rattle.qa_base.proofs.machine.Quiet as lemmas
use Rattle.qa_laws.proofs.definitions.sent_adds_its_size.Goals as goal

pub returns : goal.returns
returns c = λ c h packet none. lemmas.bytes_in_flight-sent c h packet none
