use Rattle.std.proofs.Common.{◌≡◌, ◌∙◌, true, false, Ok, sym, ap, subst}
use Rattle.json.specs.Find.{Finds, is_null}
use Rattle.qa_qlog.specs.Heads.{object_at}
use Rattle.qa_qlog.specs.Says.{is_object}
use Rattle.qa_qlog.proofs.Values.{object_here}
use Rattle.qa_qlog.proofs.heads.object_at.Goals as goal

pub returns-then-is_object : goal.returns-then-is_object
returns-then-is_object c o finds =
    let found = subst (λ r. Finds r o) c.in-Some.is finds in
    let full : is_null found.0 ≡ false = sym (c.is_null.ensures found.0 found.2) ∙ c.if-is_null.false in
    let is : is_object found.0 ≡ true = sym (c.is_object.ensures found.0 found.2) ∙ c.if-is_object.true in
    (o, ap (object_at c.args.fault) found.1 ∙ object_here c.args.fault found.0 full is ∙ ap Ok (sym found.1), found)
