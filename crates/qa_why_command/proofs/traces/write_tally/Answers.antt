use Rattle.qa_check.proofs.Writing.{begins_taken}
use Rattle.qa_why_command.specs.Tally.{tally_line}
use Rattle.qa_why_command.proofs.traces.write_tally.Goals as goal

pub returns : goal.returns
returns g c =
    let is = c.in-Err.ensures.write in
    rw is (begins_taken _ _ (tally_line c.args.tally.now) (rw (c.as_bytes.ensures.value, c.in-Ok.ensures) at c.in-Err.ensures.err), rw is at c.in-Err.ensures.failures)
