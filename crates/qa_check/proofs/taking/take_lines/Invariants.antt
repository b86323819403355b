use Rattle.std.proofs.Common.{◌≡◌, ℕ, List, None, length, false}
use Rattle.qa_check.specs.Following.{IsReady}
use Rattle.qa_check.specs.Walking.{Walked}
use Rattle.qa_check.proofs.taking.take_lines.Given as goal

abbrev pub invariant-lines : goal.invariant-lines
invariant-lines g l = record {
  ready : IsReady l.splitter;
  whole : l.checker.failed ≡ false;
  none : l.last ≡ None;
  walked : (begun : _) (bytes : List ℕ) → Walked g.J.Judge.judges (g.V.Visitor.covers begun) l.fn.splitter.bytes l.fn.checker l.fn.visitor bytes → Walked g.J.Judge.judges (g.V.Visitor.covers begun) l.splitter.bytes l.checker l.visitor bytes;
}

abbrev pub decreases-lines : goal.decreases-lines
decreases-lines g l = length l.splitter.bytes
