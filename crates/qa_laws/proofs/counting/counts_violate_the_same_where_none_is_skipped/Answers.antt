use Rattle.qa_base.proofs.machine.RunLaws.{tolerated_run_of}
use Rattle.qa_base.specs.declared.space.ThresholdCounts.TheVariants.{Numbers}
use Rattle.qa_laws.specs.machine.Alike.{counting}
use Rattle.qa_laws.proofs.machine.CountsAlike as lemmas
use Rattle.qa_laws.proofs.counting.counts_violate_the_same_where_none_is_skipped.Goals as goal

pub returns : goal.returns
returns c = record {
  first = λ c h skips run. lemmas.first_by_counts c h skips (tolerated_run_of (counting c Numbers) h run);
  all = lemmas.violations_by_counts;
  by_packets = lemmas.goes_on_by_packets;
  by_numbers = lemmas.goes_on_by_numbers;
  totals = lemmas.totals_by_counts;
}
