use Rattle.qa_format.proofs.verdicts.Fixed as lemmas
use Rattle.qa_format.specs.verdicts.Verdict.{strict}
use Rattle.qa_laws.proofs.definitions.fixed_stays.Goals as goal

pub returns : goal.returns
returns c = λ reading f g fixed. lemmas.fixed_stays (strict reading) f g fixed
