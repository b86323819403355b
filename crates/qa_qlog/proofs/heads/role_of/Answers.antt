use Rattle.std.proofs.Common.{codes}
use Rattle.qa_qlog.specs.Heads.{said}
use Rattle.qa_qlog.proofs.heads.role_of.Goals as goal

pub returns : goal.returns
returns c h t begins finds = c.role_at.ensures (said (codes "vantage_point") h t) (c.said.ensures h t begins finds)
