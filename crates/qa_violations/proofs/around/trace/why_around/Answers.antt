use Rattle.std.proofs.Common.{◌≡◌, ◌∙◌, Bool, List, ℕ, ap, ap₂, subst, sym}
use Rattle.std.specs.Io.KnownBytes.{Appends}
use Rattle.qa_violations.proofs.around_lemmas.Staying.{told_around}
use Rattle.qa_violations.specs.allowed.Lines.{each}
use Rattle.qa_violations.specs.allowed.Rests.{is_strict, unless_quiet}
use Rattle.qa_violations.specs.around.Around.{are_strict, around_written, outcome_by}
use Rattle.qa_check.specs.declared.auditing.Outcome.{Outcome}
use Rattle.qa_check.specs.Audit.{outcome_of}
use Rattle.qa_format.specs.format.Reading.{reading}
use Rattle.qa_format.specs.verdicts.Verdict.{strict}
use Rattle.qa_why.proofs.Told.{told_good, told_verdict}
use Rattle.qa_why.specs.Why.{whole}
use Rattle.qa_violations.proofs.around.trace.why_around.Goals as goal

pub returns-clause-told : goal.returns-clause-told
returns-clause-told g c = λ bytes tells.
    let found = c.in_ok-told.ensures.told in
    let outcome : c.in_ok-why.why.outcome ≡ outcome_by bytes =
    c.in_ok-why.ensures.whole.1 ∙ (found.2.1 ∙ ap outcome_of (sym (told_verdict (strict reading) _ _ found.0 bytes tells found.1))) in
    let good = told_good (strict reading) _ _ found.0 bytes tells found.1 in
    let strict_so : c.in_ok-told.told.is_strict ≡ are_strict bytes = found.2.2 ∙ ap (is_strict each) (sym good) in
    let words = told_around c.args.manner.around c.args.manner.form c.args.name.now _ _ found.0 bytes tells found.1 in
    let all : c.unless_quiet.result.now ≡ around_written c.args.manner c.args.name.now bytes =
    c.unless_quiet.ensures
    ∙ (ap₂ (λ (kind : Outcome) (is : Bool). unless_quiet c.args.manner.quiet kind is c.deref.result.now) outcome strict_so
    ∙ ap (unless_quiet c.args.manner.quiet (outcome_by bytes) (are_strict bytes)) (c.deref.ensures.value ∙ (c.in_ok-why.ensures.whole.0 ∙ ap (whole c.args.manner.form c.args.name.now) (found.2.0 ∙ sym words)))) in (
      (subst (λ (text : List ℕ). Appends (g.W.Sink.held c.args.writer.now) (g.W.Sink.held c.write_whole.new.writer) text) all c.in_ok-write_whole.ensures.ok, outcome),
      subst (λ (ls : List (List ℕ)). g.N.Notes.covers c.args.name.now c.args.notes c.in_ok-told.notes ls) (sym good) found.3,
    )
