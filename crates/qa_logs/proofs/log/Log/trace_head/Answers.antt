use Rattle.std.proofs.Common.{◌∙◌, ap, subst, sym}
use Rattle.json.specs.Find.{BeginsWith}
use Rattle.qa_qlog.specs.Kinds.{json_of}
use Rattle.qa_logs.specs.Heads.{in_document, trace_of}
use Rattle.qa_logs.proofs.log.Log.trace_head.Goals as goal

pub returns-in-Ok : goal.returns-in-Ok
returns-in-Ok c =
    let text = c.in_ok-tape.ensures in
    let begins = subst (λ tokens. BeginsWith tokens text.0) (sym c.root-document.ensures.same) text.2 in
    let found = c.in_ok-found.ensures text.0 begins in
    let head = c.head_in.ensures (λ no. cc) text.0 (trace_of c.args.trace text.0) begins found in
    ap (λ bytes. in_document c.args.trace (json_of bytes)) (sym c.as_slice.ensures.value)
    ∙ ap (in_document c.args.trace) text.1 ∙ sym head ∙ c.in-Ok.is
