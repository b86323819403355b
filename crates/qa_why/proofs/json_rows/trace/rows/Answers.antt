use Rattle.std.proofs.Common.{◌≡◌, ◌∙◌, sym, ap}
use Rattle.qa_check.specs.Audit.{outcome_of}
use Rattle.qa_check.proofs.Fed.{told_all}
use Rattle.qa_check.proofs.Judged.{told_verdict}
use Rattle.qa_format.specs.format.Reading.{reading}
use Rattle.qa_format.specs.verdicts.Verdict.{strict, verdict}
use Rattle.qa_why.specs.json_rows.Rows.{row_of}
use Rattle.qa_why.proofs.json_rows.trace.rows.Goals as goal

pub returns-in-Ok : goal.returns-in-Ok
returns-in-Ok g c =
    let judged = c.in-Ok.ensures.verdict in
    let outcome = c.of.ensures ∙ ap outcome_of judged.2 in
    record {
      told = λ bytes tells.
          let same : verdict (strict reading) bytes ≡ verdict (strict reading) judged.0 = told_verdict (strict reading) _ _ judged.0 bytes tells judged.1 in
          (rw (told_all (strict reading) row_of _ _ judged.0 bytes tells judged.1.0 judged.1.1) judged.3, outcome ∙ ap outcome_of (sym same));
      ok = (judged.0, judged.1, (judged.3, outcome));
      reads = c.in-Ok.ensures.reads;
      rows = λ is. cc;
      begun = λ is. tt;
      read_failures = c.in-Ok.ensures.read_failures;
      write_failures = c.in-Ok.ensures.write_failures;
    }
