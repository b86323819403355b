use Rattle.qa_convert.proofs.OneLine.{noted_has_no_lf}
use Rattle.qa_convert.proofs.PassedOver.{noted_reads}
use Rattle.qa_convert.proofs.law.own_keys_are_passed_over.Goals as goal

pub returns : goal.returns
returns c = record { read = noted_reads; one_line = noted_has_no_lf }
