use Rattle.std.proofs.lemmas.Result.{on_ok_weaker}
use Rattle.qa_format.specs.verdicts.Report.{bytes_text}
use Rattle.qa_check.proofs.Appends.{four_appends}
use Rattle.qa_check.proofs.text.push_bytes.Goals as goal

pub returns : goal.returns
unfolding bytes_text
returns c =
    on_ok_weaker c.push_number_line-3.result
    (four_appends _ _ _ _ _ c.in_ok-push_number_line.ensures c.in_ok-push_number_line-2.ensures c.in_ok-push_ssthresh.ensures)
    c.push_number_line-3.ensures
