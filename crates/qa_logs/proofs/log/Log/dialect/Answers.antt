use Rattle.std.proofs.Common.{◌∙◌, ap, subst, sym}
use Rattle.json.specs.Find.{BeginsWith}
use Rattle.qa_qlog.specs.Kinds.{json_of}
use Rattle.qa_logs.specs.Heads.{trace_in}
use Rattle.qa_logs.proofs.log.Log.dialect.Goals as goal

pub returns : goal.returns
returns c =
    let text = c.in_ok-tape.ensures in
    let begins = subst (λ tokens. BeginsWith tokens text.0) (sym c.root-head.ensures.same) text.2 in
    let found = c.in_ok-found.ensures text.0 begins in (
      text.0,
      ap json_of (sym c.as_slice.ensures.value) ∙ text.1,
      c.dialect_in.ensures text.0 (trace_in c.args.self.now.form c.args.trace text.0) begins found,
    )
