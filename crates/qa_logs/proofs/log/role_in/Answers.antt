use Rattle.std.proofs.Common.{◌∙◌, Some, ap, refl, sym}
use Rattle.qa_qlog.specs.declared.heads.NoHead.TheVariants.{OutOfMemory}
use Rattle.qa_logs.specs.Choosing.{role_by}
use Rattle.qa_logs.proofs.Parsed.{err_same, if_ok}
use Rattle.qa_logs.proofs.log.role_in.Goals as goal

pub returns-in-Ok : goal.returns-in-Ok
returns-in-Ok c d t begins at =
    let head = c.head_in.ensures (λ no. cc) d (Some t) begins (t, refl, at) in
    ap role_by (sym c.in-Ok.is ∙ head)

pub returns-in-Err : goal.returns-in-Err
returns-in-Err c = if_ok c.no_role.result (λ role is d t begins at.
    let head = c.head_in.ensures (λ no. is.1 (err_same c.in-Err.fault OutOfMemory (sym c.in-Err.is ∙ no))) d (Some t) begins (t, refl, at) in
    is.0 ∙ ap role_by (sym c.in-Err.is ∙ head)) c.no_role.ensures
