use Rattle.std.proofs.Common.{◌∙◌, arith, sym}
use Rattle.qa_scan.proofs.Runs.{none_yet, one_more}
use Rattle.qa_scan.proofs.plain.slow_end.Goals as goal

pub loop-i-init : goal.loop-i-init
loop-i-init c = none_yet c.args.bytes.now c.args.start c.requires

pub loop-i-preserved : goal.loop-i-preserved
loop-i-preserved c = one_more c.args.bytes.now c.args.start c.loop-i.i c.loop-i.invariant (omega arith) (sym c.is_plain.ensures ∙ c.if-not-is_plain.false)
