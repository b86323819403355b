use Rattle.std.proofs.Common.{◌∙◌, ap}
use Rattle.qa_check.specs.Audit.{outcome_of}
use Rattle.qa_check.specs.Standing.{by}
use Rattle.qa_why.specs.Why.{good_lines, with_caveats}
use Rattle.qa_why.proofs.Found.{can_refuse, ended_tells, line_handed}
use Rattle.qa_why.proofs.causes.why_of.Goals as goal

pub of_verdict-requires-clause-refusal : goal.of_verdict-requires-clause-refusal
of_verdict-requires-clause-refusal g c = can_refuse g.J.Judge.judges c.args.ended.now c.requires.end.0 c.requires.end.1

pub returns-clause-told : goal.returns-clause-told
returns-clause-told g c = λ bytes end held. (
  (
    c.in-Ok-push_caveats.ensures _ held
        ∙ (ap (with_caveats c.args.ended.now.verdict c.args.form (good_lines (by g.J.Judge.judges) bytes, line_handed c.args.ended.now.line)) (c.in-Ok.ensures _ _ end.1)
        ∙ ended_tells g.J.Judge.judges c.args.form c.args.name.now c.args.ended.now bytes end),
    c.of.ensures ∙ ap outcome_of end.0,
  ),
  c.guessed.ensures _ held,
)
