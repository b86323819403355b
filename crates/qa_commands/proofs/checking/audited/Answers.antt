use Rattle.std.proofs.Common.{ap}
use Rattle.std.specs.Prelude.{Err}
use Rattle.qa_commands.proofs.Written.{audited_ok, audited_err, read_counted, stop_counted}
use Rattle.qa_commands.proofs.checking.audited.Goals as goal

pub returns-in-Ok : goal.returns-in-Ok
returns-in-Ok g c = record {
  written = audited_ok _ _ _ _ _ c.args.origin c.in-Ok.ensures.told c.in-Ok.ensures.ok;
  reads = c.in-Ok.ensures.reads;
  read_failures = c.in-Ok.ensures.read_failures;
  failures = c.in-Ok.ensures.write_failures;
}

pub returns-in-Err : goal.returns-in-Err
returns-in-Err g c = record {
  written = audited_err _ _ _ _ c.args.origin _ _ c.of_audit.ensures (λ bytes tells is. c.in-Err.ensures.told_beginning bytes tells (ap Err is))
      (λ is. c.in-Err.ensures.beginning (ap Err is)) (λ other. c.in-Err.ensures.unwritten (λ e. other cc));
  reads = c.in-Err.ensures.reads;
  read_failures = read_counted c.args.origin _ _ _ _ c.of_audit.ensures c.in-Err.ensures.read_failures;
  failures = stop_counted c.args.origin _ _ _ _ c.of_audit.ensures c.in-Err.ensures.write_failures;
}
