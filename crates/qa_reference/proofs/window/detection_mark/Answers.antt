use Rattle.std.proofs.Common.{arith}
use Rattle.qa_reference.proofs.window.detection_mark.Goals as goal

pub of-requires : goal.of-requires
of-requires c = omega (arith, c.requires.few, c.detected_place.ensures.bound)
