use Rattle.std.proofs.Common.{arith, rules}
use Rattle.std.proofs.lemmas.Grind.{common_steps}
use Rattle.qa_cut.proofs.cutter.Cutter.next_piece.Goals as goal

-- Written out, so that a wrong body is refused at these lines.
pub returns-in-Some : goal.returns-in-Some
returns-in-Some c = search rules

pub returns-then-not-len : goal.returns-then-not-len
returns-then-not-len c = grind (arith, common_steps)
