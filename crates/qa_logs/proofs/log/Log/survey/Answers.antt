use Rattle.std.proofs.Common.{refl, subst, sym}
use Rattle.qa_logs.specs.Choosing.{AreRoles}
use Rattle.qa_logs.proofs.Asking.{asked_so}
use Rattle.qa_logs.proofs.log.Log.survey.Goals as goal

pub returns : goal.returns
returns c = asked_so _ _ c.in_ok-chosen.chosen c.as_slice.result.now _ _ c.new.result
    (subst (AreRoles c.args.self.now) (sym c.as_slice.ensures.value) c.in_ok-roles.ensures)
    c.in_ok-chosen.ensures
    (record {
      role = refl;
      dialect = c.in_ok-dialect.ensures;
      connection = refl;
      choices = refl;
      has_places = refl;
    })
    c.in_ok-head.ensures
    c.new.ensures
