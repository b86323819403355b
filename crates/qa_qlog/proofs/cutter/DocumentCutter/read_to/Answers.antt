use Rattle.std.proofs.Common.{◌≡◌, ◌+◌, drop, arith}
use Rattle.std.specs.Prelude.{min}
use Rattle.qa_qlog.specs.Outer.{last}
use Rattle.qa_qlog.proofs.Bounds.{drop_further, take_further}
use Rattle.qa_qlog.proofs.Steps.{read_view}
use Rattle.qa_qlog.proofs.cutter.DocumentCutter.read_to.Goals as goal

pub returns : goal.returns
returns c =
    let at : c.saturating_add-self-inside.result ≡ min last (c.self.inside.at + c.args.extent.len) = omega arith in
    let rest = drop c.self.inside.start c.self.inside.bytes.items in
    read_view _ _ c.args.extent c.saturating_add-self-inside.result _ _ c.self.view_is at
    (take_further c.self.inside.used c.args.extent.len rest) (drop_further c.self.inside.used c.args.extent.len rest)
