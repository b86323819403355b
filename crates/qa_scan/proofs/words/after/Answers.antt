use Rattle.std.proofs.Common.{◌+◌, arith}
use Rattle.qa_scan.proofs.Matching.{same_more, word_then_rest}
use Rattle.qa_scan.proofs.words.after.Goals as goal

pub loop-i-init : goal.loop-i-init
loop-i-init c = record { within = c.in_ok-i.ensures.0; same = c.in_ok-i.ensures.1 }

pub loop-i-preserved : goal.loop-i-preserved
loop-i-preserved c = record {
  within = omega arith;
  same = same_more c.args.bytes.now c.args.word.now c.loop-i.i (c.loop-i.i + 1) c.loop-i.invariant.same (omega arith) (omega arith) (omega arith) (omega arith);
}

pub returns : goal.returns
returns c = word_then_rest c.args.bytes.now c.args.word.now c.loop-i.i (omega arith) (omega arith) c.loop-i.invariant.same
