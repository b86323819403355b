use Rattle.qa_laws.proofs.machine.ConductOfSends as lemmas
use Rattle.qa_laws.proofs.conduct.sends_have_permission.Goals as goal

pub returns : goal.returns
returns c = record {
  within = lemmas.within_window;
  below = lemmas.below_window;
  no_probe = lemmas.no_probe_before;
  probes = lemmas.probes_between;
  entered = lemmas.entry_before;
  between = lemmas.entry_between;
}
