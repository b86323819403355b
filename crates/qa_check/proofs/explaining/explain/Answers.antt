use Rattle.std.proofs.Common.{◌≡◌, Result, Err, refl}
use Rattle.std.proofs.lemmas.Result.{IfOk-weaker, err_from_is_err_and}
use Rattle.qa_check.specs.declared.auditing.AuditFault.{AuditFault}
use Rattle.qa_check.specs.declared.auditing.AuditFault.TheVariants.{Write}
use Rattle.qa_check.specs.declared.auditing.Outcome.{Outcome}
use Rattle.qa_check.proofs.Faults.{not_read, memory_not_write}
use Rattle.qa_check.proofs.Writing.{explained, told_explained, report_begun, rows_written, rows_explain, told_begins}
use Rattle.qa_check.proofs.explaining.explain.Goals as goal

-- a fault that is returned as it came
fault_is : (r : Result Outcome AuditFault) (x y : AuditFault) → r ≡ Err y → y ≡ x → r ≡ Err Write → x ≡ Write
fault_is r x y left from is = cc

pub returns : goal.returns
returns g c =
    let shown = c.in_ok-verdict.ensures in
    let written = c.write_report.ensures in
    record {
      told = λ bytes tells.
          IfOk-weaker c.write_report.result _ _ (λ outcome told. told_explained _ _ _ _ _ bytes tells (explained _ _ _ _ _ _ _ shown.verdict told.0 told.1)) written.ok;
      ok = IfOk-weaker c.write_report.result _ _ (λ outcome told. explained _ _ _ _ _ _ _ shown.verdict told.0 told.1) written.ok;
      reads = shown.reads;
      rows = λ is. absurd (not_read c.write_report.result written.read is);
      out_of_memory = λ is. rw (rw is at (written.unwritten (memory_not_write c.write_report.result is))) (rows_written _ _ _ _ _ shown.verdict);
      told_beginning = λ bytes tells is. told_begins _ _ _ _ bytes tells (report_begun _ _ _ _ _ _ shown.verdict (written.begun is));
      beginning = λ is. report_begun _ _ _ _ _ _ shown.verdict (written.begun is);
      read_failures = rw written.read shown.read_failures;
      write_failures = rw shown.write_failures at written.failures;
    }

pub returns-in_err-verdict-clause-beginning : goal.returns-in_err-verdict-clause-beginning
returns-in_err-verdict-clause-beginning g c = λ is.
    let passed = err_from_is_err_and c.from_residual.result c.from_residual.ensures.1 in
    let fault : c.in_err-verdict.field-0.0 ≡ Write = fault_is c.from_residual.result _ _ passed.1 passed.2 is in
    rows_explain _ _ _ _ (c.in_err-verdict.ensures.unwritten (rw fault refl))

pub returns-in_err-verdict-clause-told_beginning : goal.returns-in_err-verdict-clause-told_beginning
returns-in_err-verdict-clause-told_beginning g c = λ bytes tells is.
    let passed = err_from_is_err_and c.from_residual.result c.from_residual.ensures.1 in
    let fault : c.in_err-verdict.field-0.0 ≡ Write = fault_is c.from_residual.result _ _ passed.1 passed.2 is in
    told_begins _ _ _ _ bytes tells (rows_explain _ _ _ _ (c.in_err-verdict.ensures.unwritten (rw fault refl)))
