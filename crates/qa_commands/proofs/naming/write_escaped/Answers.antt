use Rattle.std.proofs.Common.{false}
use Rattle.qa_commands.proofs.Writes.{part_less, part_more}
use Rattle.qa_check.specs.names.Names.{escaped}
use Rattle.qa_commands.proofs.naming.write_escaped.Goals as goal

pub loop-byte-preserved : goal.loop-byte-preserved
loop-byte-preserved g c =
    part_more escaped _ _ 0 false _ _ _ _ _ _ c.loop-byte-test.true c.loop-byte.invariant (rw c.escaped.ensures at c.in_ok-write_bytes.ensures)

pub returns-in_err-write_bytes : goal.returns-in_err-write_bytes
returns-in_err-write_bytes g c =
    rw c.from_residual.ensures.0
    (part_less escaped _ _ 0 _ _ _ _ _ _ c.loop-byte-test.true c.loop-byte.invariant (rw c.escaped.ensures at c.in_err-write_bytes.ensures))
