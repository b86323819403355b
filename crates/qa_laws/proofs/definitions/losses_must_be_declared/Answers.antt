use Rattle.std.proofs.Common.{◌∷◌}
use Rattle.qa_base.proofs.machine.Declared as lemmas
use Rattle.qa_base.specs.machine.Estimates.{sampled}
use Rattle.qa_laws.proofs.definitions.losses_must_be_declared.Goals as goal

pub returns : goal.returns
returns c = record {
  free = λ c h. lemmas.must_free_by c (sampled c h) h;
  nameable = lemmas.must_nameable;
  declared = λ c e h. lemmas.must_declared_by c (sampled c (e ∷ h)) e h;
}
