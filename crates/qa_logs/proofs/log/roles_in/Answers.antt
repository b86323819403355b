use Rattle.std.proofs.Common.{◌∙◌, ◌++◌, map, ap, sym}
use Rattle.std.proofs.lemmas.List.{append-nil}
use Rattle.qa_qlog.specs.Frames.{listed}
use Rattle.qa_logs.specs.Choosing.{role_of, roles_in}
use Rattle.qa_logs.proofs.Parsed.{added_role}
use Rattle.qa_logs.proofs.log.roles_in.Goals as goal

pub loop-trace-init : goal.loop-trace-init
loop-trace-init c j begins =
    let has = rw c.in-Some.is at c.in_ok-traces.ensures j begins in
    (has.0, has.2, rw c.new-roles.ensures.items (ap (map (role_of j)) (sym has.1)))

pub loop-trace-preserved : goal.loop-trace-preserved
loop-trace-preserved c j begins =
    let now = c.loop-trace.invariant j begins in
    let next = c.in-Some-next.ensures.value now.0 now.1 in
    let role = c.in_ok-role.ensures j next.0 begins next.3 in (
      next.1,
      next.4,
      added_role j (roles_in j) c.loop-trace.roles.items c.add_role.new.roles.items c.in_ok-role.role now.0 next.0 next.1 next.2 role c.in_ok-add_role.ensures now.2,
    )

pub returns : goal.returns
returns c j begins =
    let now = c.loop-trace.invariant j begins in
    let done = c.in_default-next.ensures.value now.0 now.1 in
    sym (append-nil c.loop-trace.roles.items)
    ∙ ap (λ items. c.loop-trace.roles.items ++ map (role_of j) (listed items)) (sym done)
    ∙ now.2
