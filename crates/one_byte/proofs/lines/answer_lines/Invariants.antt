use Rattle.std.proofs.Common.{length}
use Rattle.one_byte.proofs.lines.answer_lines.Given as goal

abbrev pub decreases-lines : goal.decreases-lines
decreases-lines g l = length l.lines.bytes
