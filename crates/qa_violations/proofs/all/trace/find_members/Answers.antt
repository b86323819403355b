use Rattle.std.proofs.Common.{◌∙◌, ap, ap₂}
use Rattle.qa_violations.specs.all.All.{all_outcome, all_strict, tolerated_run_in, outcome_with, past_sender_rules, told_by}
use Rattle.qa_violations.specs.all.Violated.{all_violated, findings}
use Rattle.qa_format.specs.declared.form.Form.TheVariants.{Json}
use Rattle.qa_why.specs.Why.{good_lines}
use Rattle.qa_violations.proofs.all.trace.find_members.Goals as goal

pub find-requires : goal.find-requires
find-requires g c = record { fresh = ((c.new.ensures.fresh c.args.name.now, c.new-2.ensures c.args.name.now), c.requires.fresh) }

pub returns-in-Ok-clause-told : goal.returns-in-Ok-clause-told
unfolding told_by all_outcome all_strict
returns-in-Ok-clause-told g c =
    let found = c.in_ok-end.ensures.told in
    let good = good_lines past_sender_rules found.0 in
    let end = c.in_ok-end.end in
    let all = c.in-Ok.ensures c.args.name.now c.new.result good found.2.1.0.0 found.2.1.0.1 found.2.2 in (
      found.0,
      found.1,
      all.0 ∙ (ap (λ count. tolerated_run_in count Json c.args.name.now good end.outcome end.text.items) c.new.ensures.count ∙ ap₂ (tolerated_run_in c.args.around Json c.args.name.now good) found.2.0.1 found.2.0.0),
      all.1 ∙ ap (outcome_with (findings (all_violated good))) found.2.0.1,
      all.2,
      found.2.1.1,
    )
