use Rattle.std.proofs.Common.{◌≡◌, ◌∙◌, sym}
use Rattle.std.proofs.lemmas.Result.{IfOk-weaker}
use Rattle.qa_format.specs.format.Reading.{reading}
use Rattle.qa_format.specs.verdicts.Verdict.{strict, verdict}
use Rattle.qa_check.proofs.Reading.{told_verdict}
use Rattle.qa_check.proofs.auditing.audit.Goals as goal

pub returns : goal.returns
returns g c =
    let judged = c.in_ok-verdict.ensures.verdict in
    let written = c.write_report.ensures in
    record {
      told = λ bytes tells.
          let same : verdict (strict reading) bytes ≡ c.in_ok-verdict.verdict = told_verdict _ _ judged.0 bytes tells judged.1 ∙ sym judged.2 in
          rw same written.ok;
      ok = IfOk-weaker c.write_report.result _ _ (λ outcome told. (judged.0, judged.1, rw (← judged.2) told)) written.ok;
      reads = c.in_ok-verdict.ensures.reads;
      told_beginning = λ bytes tells is.
          let same : verdict (strict reading) bytes ≡ c.in_ok-verdict.verdict = told_verdict _ _ judged.0 bytes tells judged.1 ∙ sym judged.2 in
          rw same (written.begun is);
      beginning = λ is. (judged.0, judged.1, rw (← judged.2) (written.begun is));
      unwritten = written.unwritten;
      read_failures = rw written.read c.in_ok-verdict.ensures.read_failures;
      write_failures = written.failures;
    }
