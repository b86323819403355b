use Rattle.qa_scan.proofs.Runs.{none_yet, plain_then}
use Rattle.qa_scan.proofs.plain.plain_end.Goals as goal

pub loop-i-init : goal.loop-i-init
loop-i-init c = none_yet c.args.bytes.now c.args.start c.requires

pub loop-i-preserved : goal.loop-i-preserved
loop-i-preserved c = plain_then c.loop-i.invariant c.end_of_lanes-end.ensures.plain

pub returns : goal.returns
returns c = plain_then c.loop-i.invariant c.late_end.ensures
