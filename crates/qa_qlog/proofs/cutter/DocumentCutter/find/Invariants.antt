use Rattle.std.proofs.Common.{◌≡◌, None, length}
use Rattle.qa_qlog.specs.Cutting.{Keeps}
use Rattle.qa_qlog.proofs.cutter.DocumentCutter.find.Given as goal

abbrev pub invariant-bytes : goal.invariant-bytes
invariant-bytes l = record {
  keeps : Keeps l.fn.self l.self;
  whole : l.fn.self.refused ≡ None;
}

abbrev pub decreases-bytes : goal.decreases-bytes
decreases-bytes l = length l.self.bytes
