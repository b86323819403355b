use Rattle.std.proofs.Common.{ap}
use Rattle.std.specs.Prelude.{Err}
use Rattle.qa_commands.proofs.Written.{explained_ok, explained_err, stop_counted}
use Rattle.qa_commands.proofs.explaining.explained.Goals as goal

pub returns-in-Ok : goal.returns-in-Ok
returns-in-Ok g c = record {
  written = explained_ok _ _ _ _ _ c.args.origin c.in-Ok.ensures.told c.in-Ok.ensures.ok;
  reads = c.in-Ok.ensures.reads;
  failures = c.in-Ok.ensures.write_failures;
}

pub returns-in-Err : goal.returns-in-Err
returns-in-Err g c = record {
  written = explained_err _ _ _ _ c.args.origin _ _ c.of_audit.ensures (λ is. c.in-Err.ensures.rows (ap Err is)) (λ is. c.in-Err.ensures.out_of_memory (ap Err is))
      (λ bytes tells is. c.in-Err.ensures.told_beginning bytes tells (ap Err is)) (λ is. c.in-Err.ensures.beginning (ap Err is));
  reads = c.in-Err.ensures.reads;
  failures = stop_counted c.args.origin _ _ _ _ c.of_audit.ensures c.in-Err.ensures.write_failures;
}
