use Rattle.std.proofs.Common.{◌∙◌, ◌++◌, ℕ, List, ap, ap₂}
use Rattle.qa_violations.specs.allowed.Lines.{each}
use Rattle.qa_violations.specs.allowed.Rests.{rest_behind}
use Rattle.qa_violations.specs.around.Around.{around_told, rows_behind, outcome_by}
use Rattle.qa_check.specs.declared.auditing.Outcome.{Outcome}
use Rattle.qa_format.specs.format.Reading.{reading}
use Rattle.qa_format.specs.verdicts.Verdict.{strict}
use Rattle.qa_why.specs.Why.{good_lines, why_by}
use Rattle.qa_format.specs.declared.form.Form.TheVariants.{Text}
use Rattle.qa_violations.proofs.around.trace.find_text.Goals as goal

pub find-requires : goal.find-requires
find-requires g c = record { fresh = ((c.new.ensures.fresh c.args.name.now, c.new-2.ensures c.args.name.now), c.requires.fresh) }

pub returns-in-Ok-clause-told : goal.returns-in-Ok-clause-told
unfolding around_told
returns-in-Ok-clause-told g c =
    let found = c.in_ok-why.ensures.told in
    let good = good_lines (strict reading) found.0 in
    let all = c.in-Ok.ensures good found.2.1.0.0.1 found.2.1.0.1 found.2.2 in (
      found.0,
      found.1,
      (
        all.0
            ∙ (ap₂ (λ (text : List ℕ) (outcome : Outcome). text ++ rest_behind each Text outcome good ++ rows_behind outcome c.find.new.notes.first.first.count good) found.2.0.0 found.2.0.1
            ∙ ap (λ count. why_by (strict reading) Text c.args.name.now found.0 ++ rest_behind each Text (outcome_by found.0) good ++ rows_behind (outcome_by found.0) count good) (found.2.1.0.0.0 ∙ c.new.ensures.count)),
        all.1 ∙ found.2.0.1,
        all.2,
      ),
      found.2.1.1,
    )
