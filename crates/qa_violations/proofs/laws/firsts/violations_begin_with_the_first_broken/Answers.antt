use Rattle.qa_violations.proofs.laws_lemmas.Breaking.{first_violation, no_violations}
use Rattle.qa_violations.proofs.laws.firsts.violations_begin_with_the_first_broken.Goals as goal

pub returns : goal.returns
returns c = record {
  first = first_violation;
  none = no_violations;
  run = λ c h e run. no_violations c h e run.1;
}
