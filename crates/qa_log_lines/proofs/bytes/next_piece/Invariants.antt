use Rattle.std.proofs.Common.{◌-◌}
use Rattle.std.specs.Prelude.{vec_len}
use Rattle.qa_log_lines.proofs.bytes.next_piece.Given as goal

abbrev pub decreases-loop-length : goal.decreases-loop-length
decreases-loop-length g l = vec_len l.piece - l.length
