use Rattle.std.proofs.Common.{◌∙◌, ap}
use Rattle.qa_qlog.specs.Heads.{◌>>=◌, with_form}
use Rattle.qa_qlog.proofs.heads.with_fields.Goals as goal

pub returns-in-Ok : goal.returns-in-Ok
returns-in-Ok c h t begins finds =
    c.with_form.ensures h t begins finds ∙ ap (λ r. r >>= with_form h t c.args.fields) (c.in-Ok.ensures h t begins finds)

pub returns-in-Err : goal.returns-in-Err
returns-in-Err c h t begins finds = ap (λ r. r >>= with_form h t c.args.fields) (c.in-Err.ensures h t begins finds)
