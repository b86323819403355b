use Rattle.std.proofs.Common.{◌≡◌, ◌≤◌, ℕ, List, length}
use Rattle.std.specs.Io.KnownBytes.{Consumes}
use Rattle.qa_check.specs.Auditor.{TakesMore}
use Rattle.qa_check.specs.Walking.{Walked}
use Rattle.qa_check.proofs.walking.take_pieces.Given as goal

abbrev pub invariant-pieces : goal.invariant-pieces
invariant-pieces g l = record {
  more : TakesMore l.splitter l.checker;
  flushed : g.V.Visitor.is_flushed l.visitor;
  unfailed_read : g.R.Source.read_failures l.reader ≡ g.R.Source.read_failures l.fn.reader;
  read : (bytes : List ℕ) × Consumes (g.R.Source.left l.fn.reader) (g.R.Source.left l.reader) bytes
      × Walked g.J.Judge.judges (g.V.Visitor.covers l.fn.visitor) l.splitter.bytes l.checker l.visitor bytes × (l._i ≤ length bytes);
}
