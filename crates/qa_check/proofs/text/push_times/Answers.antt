use Rattle.std.proofs.lemmas.Result.{on_ok_weaker}
use Rattle.qa_format.specs.verdicts.Report.{times_text}
use Rattle.qa_check.proofs.Appends.{six_appends}
use Rattle.qa_check.proofs.text.push_times.Goals as goal

pub returns : goal.returns
unfolding times_text
returns c =
    on_ok_weaker c.push_number_line-6.result
    (six_appends _ _ _ _ _ _ _ c.in_ok-push_number_line.ensures c.in_ok-push_number_line-2.ensures c.in_ok-push_number_line-3.ensures c.in_ok-push_number_line-4.ensures c.in_ok-push_number_line-5.ensures)
    c.push_number_line-6.ensures
