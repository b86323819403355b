use Rattle.std.proofs.Common.{◌∙◌, codes, sym, ap}
use Rattle.qa_qlog.specs.Heads.{◌>>=◌, said, unit_at}
use Rattle.qa_qlog.specs.Says.{key_at}
use Rattle.qa_qlog.proofs.heads.unit_of.Goals as goal

pub returns-in-Ok : goal.returns-in-Ok
returns-in-Ok c h t begins finds =
    let gives = c.in-Ok.ensures (said (codes "configuration") h t) (c.said.ensures h t begins finds) in
    c.unit_at.ensures (key_at (codes "time_units") gives.0) (c.key_at.ensures gives.0 gives.2)
    ∙ sym (ap (λ r. r >>= (λ o. unit_at (key_at (codes "time_units") o))) gives.1)

pub returns-in-Err : goal.returns-in-Err
returns-in-Err c h t begins finds =
    let is = c.in-Err.ensures (said (codes "configuration") h t) (c.said.ensures h t begins finds) in
    sym (ap (λ r. r >>= (λ o. unit_at (key_at (codes "time_units") o))) is)
