use Rattle.std.proofs.Common.{◌∙◌, codes, sym, ap}
use Rattle.qa_qlog.specs.Heads.{◌>>=◌, said, form_at}
use Rattle.qa_qlog.specs.Says.{key_at}
use Rattle.qa_qlog.proofs.heads.form_of.Goals as goal

pub returns-in-Ok : goal.returns-in-Ok
returns-in-Ok c h t begins finds =
    let gives = c.in-Ok.ensures (said (codes "common_fields") h t) (c.said.ensures h t begins finds) in
    c.form_at.ensures (key_at (codes "time_format") gives.0) (c.key_at.ensures gives.0 gives.2)
    ∙ sym (ap (λ r. r >>= (λ o. form_at c.args.fields.now (key_at (codes "time_format") o))) gives.1)

pub returns-in-Err : goal.returns-in-Err
returns-in-Err c h t begins finds =
    let is = c.in-Err.ensures (said (codes "common_fields") h t) (c.said.ensures h t begins finds) in
    sym (ap (λ r. r >>= (λ o. form_at c.args.fields.now (key_at (codes "time_format") o))) is)
