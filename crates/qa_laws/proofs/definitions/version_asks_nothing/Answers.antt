use Rattle.qa_laws.proofs.machine.SameVersion as lemmas
use Rattle.qa_laws.proofs.definitions.version_asks_nothing.Goals as goal

pub returns : goal.returns
returns c = record {
  broken = lemmas.same_broken;
  totals = lemmas.same_held;
  runs = lemmas.same_runs;
  complete = lemmas.same_ends;
  chosen = λ s c. lemmas.chosen_asks_the_same s c;
}
