use Rattle.std.proofs.Common.{length}
use Rattle.qa_convert.proofs.sizes.Sizes.see_frames.Given as goal

abbrev pub decreases-loop-frame : goal.decreases-loop-frame
decreases-loop-frame l = length l.frames
