use Rattle.qa_base.proofs.machine.RunLaws.{tolerated_run_of}
use Rattle.qa_base.specs.declared.space.ThresholdCounts.TheVariants.{Numbers}
use Rattle.qa_laws.specs.machine.Alike.{counting}
use Rattle.qa_laws.proofs.machine.CountsAlike as lemmas
use Rattle.qa_laws.proofs.counting.counts_make_one_run_where_none_is_skipped.Goals as goal

pub returns : goal.returns
returns c = record {
  by_packets = lemmas.runs_by_packets;
  by_numbers = lemmas.runs_by_numbers;
  totals = λ c h skips run. lemmas.totals_by_counts c h skips (tolerated_run_of (counting c Numbers) h run);
  estimate = λ c h skips run. lemmas.rtt_by_counts c h skips (tolerated_run_of (counting c Numbers) h run);
  owed = λ c h skips run. lemmas.owed_by_counts c h skips (tolerated_run_of (counting c Numbers) h run);
  nameable = λ c h skips run. lemmas.nameable_by_counts c h skips (tolerated_run_of (counting c Numbers) h run);
  fate = λ c h skips run. lemmas.fate_by_counts c h skips (tolerated_run_of (counting c Numbers) h run);
  deadline = λ c h skips run. lemmas.deadline_by_counts c h skips (tolerated_run_of (counting c Numbers) h run);
}
