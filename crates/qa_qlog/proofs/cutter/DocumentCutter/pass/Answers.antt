use Rattle.std.proofs.Common.{◌∙◌}
use Rattle.qa_qlog.proofs.Bounds.{drop_passed}
use Rattle.qa_qlog.proofs.Steps.{passed_view}
use Rattle.qa_qlog.proofs.cutter.DocumentCutter.pass.Goals as goal

pub returns : goal.returns
returns c = passed_view _ _ _ (c.self.view_is ∙ c.note.ensures) (drop_passed c.self.inside.bytes.items c.self.inside.start c.self.inside.used)
