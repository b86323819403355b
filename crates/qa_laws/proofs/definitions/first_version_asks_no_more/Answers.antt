use Rattle.qa_laws.proofs.machine.FirstVersion as lemmas
use Rattle.qa_laws.proofs.definitions.first_version_asks_no_more.Goals as goal

pub returns : goal.returns
returns c = record {
  rtt = lemmas.rtt_is_by_samples;
  sampled = lemmas.sampled_is_by_samples;
  timers = lemmas.no_timer_late;
  late = lemmas.never_late;
  persistent_congestions = lemmas.no_collapse_missing;
  missing = lemmas.never_missing;
  metrics = lemmas.metric_tests_are_exact;
  read = lemmas.first_version_has_no_options;
}
