use Rattle.std.proofs.Common.{◌∙◌}
use Rattle.std.proofs.KnownBytes.{Appends-kept}
use Rattle.qa_check.proofs.Reading.{write_step}
use Rattle.qa_check.proofs.Writing.{begins_taken}
use Rattle.qa_log_command.proofs.output.write_text.Goals as goal

pub returns-in_err-count : goal.returns-in_err-count
returns-in_err-count g c = rw c.from_residual.ensures.0 (record {
  wrote = begins_taken _ _ _ (_, Appends-kept _ _ _ _ c.loop-at.invariant.written c.in_err-count.ensures.unwritten);
  counted = rw c.loop-at.invariant.unfailed at c.in_err-count.ensures.failures;
})

pub loop-at-preserved : goal.loop-at-preserved
loop-at-preserved g c =
    let s = write_step _ _ _ _ _ _ c.loop-at.invariant.within c.in_ok-count.ensures.bound c.loop-at.invariant.written c.in_ok-count.ensures.written in
    record { within = s.0; written = s.1; unfailed = c.in_ok-count.ensures.failures ∙ c.loop-at.invariant.unfailed }
