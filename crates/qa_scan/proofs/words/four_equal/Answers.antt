use Rattle.std.proofs.Common.{arith}
use Rattle.qa_scan.proofs.Matching.{four_more}
use Rattle.qa_scan.proofs.words.four_equal.Goals as goal

pub returns : goal.returns
returns c is same = four_more c.args.bytes.now c.args.word.now c.args.i same (omega arith) (omega arith) is
