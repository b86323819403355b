use Rattle.std.proofs.Common.{◌∙◌, refl}
use Rattle.std.proofs.KnownBytes.{Appends-kept}
use Rattle.qa_check.proofs.Reading.{write_step, unfailed_write}
use Rattle.qa_check.proofs.auditing.write_whole.Goals as goal

pub returns-in_default : goal.returns-in_default
returns-in_default g c =
    let wrote = c.in_default.ensures in
    record {
      ok = tt;
      err = (_, Appends-kept _ _ _ _ c.loop-at.invariant.written wrote.bytes);
      failures = rw c.loop-at.invariant.unfailed at wrote.failures;
      write = refl;
    }

pub loop-at-preserved : goal.loop-at-preserved
loop-at-preserved g c =
    let s = write_step _ _ _ _ _ _ c.loop-at.invariant.within c.in-Ok.ensures.bound c.loop-at.invariant.written c.in-Ok.ensures.bytes in
    record { within = s.0; written = s.1; unfailed = unfailed_write _ _ _ _ c.if-n-eq0.false c.in-Ok.ensures.failures ∙ c.loop-at.invariant.unfailed }
