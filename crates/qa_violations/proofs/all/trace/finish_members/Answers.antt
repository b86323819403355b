use Rattle.std.proofs.Common.{◌∙◌, ap}
use Rattle.qa_violations.specs.all.Objects.{tolerated_run_members}
use Rattle.qa_violations.specs.all.Tolerating.{unviolated}
use Rattle.qa_violations.proofs.all.trace.finish_members.Goals as goal

pub returns : goal.returns
returns c = λ name begun ls covers allowed guessed.
    let all = c.in_ok-why.ensures name begun ls covers in
    (all.0 ∙ ap (tolerated_run_members begun.latest.count ls c.args.end.outcome) (c.in_ok-push_behind.ensures unviolated ls allowed guessed), all.1, c.is_strict.ensures unviolated ls allowed)
