use Rattle.qa_base.proofs.history.ToleratedRuns as lemmas
use Rattle.qa_laws.proofs.machine.Samples as samples
use Rattle.qa_laws.proofs.running.lower_numbers_are_earlier.Goals as goal
use Rattle.qa_base.proofs.machine.RunLaws.{tolerated_run_of}

pub returns : goal.returns
returns c = record {
  order = λ s h run. lemmas.lower_is_earlier s h (tolerated_run_of s h run);
  one = λ s h run. lemmas.same_number s h (tolerated_run_of s h run);
  each_two = λ s h run. lemmas.in_order s h (tolerated_run_of s h run);
  rise = samples.kept_rise;
}
