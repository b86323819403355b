use Rattle.std.proofs.Common.{◌∙◌, ap, subst, sym}
use Rattle.json.specs.Find.{BeginsWith}
use Rattle.qa_qlog.specs.Kinds.{json_of}
use Rattle.qa_logs.proofs.Parsed.{if_ok}
use Rattle.qa_logs.proofs.log.Log.trace_roles.Goals as goal

pub returns : goal.returns
returns c =
    let text = c.in_ok-tape.ensures in
    let begins = subst (λ tokens. BeginsWith tokens text.0) (sym c.root.ensures.same) text.2 in
    if_ok c.roles_in.result (λ roles are. rw (ap json_of (sym c.as_slice.ensures.value) ∙ text.1) (are text.0 begins)) c.roles_in.ensures
