use Rattle.std.proofs.Common.{◌∙◌, codes, ap}
use Rattle.qa_qlog.specs.Heads.{◌>>=◌, said, with_fields}
use Rattle.qa_qlog.proofs.heads.head_in.Goals as goal

pub returns-in-Ok : goal.returns-in-Ok
returns-in-Ok c memory h t begins finds =
    let is = c.in-Ok.ensures (λ e. cc) (said (codes "event_fields") h t) (c.said.ensures h t begins finds) in
    c.with_fields.ensures h t begins finds ∙ ap (λ r. r >>= with_fields h t) is

pub returns-in-Err : goal.returns-in-Err
returns-in-Err c memory h t begins finds =
    let is = c.in-Err.ensures (λ e. memory cc) (said (codes "event_fields") h t) (c.said.ensures h t begins finds) in
    ap (λ r. r >>= with_fields h t) is
