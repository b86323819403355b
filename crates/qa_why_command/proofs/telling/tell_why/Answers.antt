use Rattle.std.proofs.Common.{refl}
use Rattle.qa_format.specs.format.Reading.{reading}
use Rattle.qa_format.specs.verdicts.Verdict.{strict}
use Rattle.qa_why_command.specs.warnings.Keeping.{Covers}
use Rattle.qa_arguments.specs.why.Asked.{wanted}
use Rattle.qa_arguments.specs.declared.why.arguments.Told.TheVariants.{Why}
use Rattle.qa_why_command.proofs.Noted.{noted_by, read_unwarned, read_warned}
use Rattle.qa_why_command.specs.Telling.{outcome_by, text_of}
use Rattle.qa_why_command.proofs.telling.tell_why.Goals as goal

pub why_around-noted-requires : goal.why_around-noted-requires
why_around-noted-requires g c = record { fresh = c.new-warnings.ensures c.args.name.now }

pub returns-then-inquiry : goal.returns-then-inquiry
returns-then-inquiry g c =
    read_warned (Why c.args.form) (wanted c.args.inquiry.now) c.args.name.now _ _ _ _ _ _ _ _ refl c.if-inquiry.true c.warned.ensures.outcome c.warned.ensures.told
    (noted_by (strict reading) (text_of (Why c.args.form) (wanted c.args.inquiry.now) c.args.name.now) (outcome_by (Why c.args.form)) (Covers c.args.name.now)
    _ _ _ _ _ _ _ _ _ _ _ (rw c.manner-manner.ensures at c.why_around-noted.ensures.told) (rw c.manner-manner.ensures at c.why_around-noted.ensures.ok) c.why_around-noted.ensures.reads (rw c.manner-manner.ensures at c.why_around-noted.ensures.beginning) c.why_around-noted.ensures.unwritten
    c.why_around-noted.ensures.read_failures c.why_around-noted.ensures.write_failures)

pub returns : goal.returns
returns g c =
    read_unwarned (Why c.args.form) (wanted c.args.inquiry.now) c.args.name.now (λ notes ls. Unit {0}) _ _ _ _ _ _ _ _ refl c.if-inquiry.false c.without_notes.ensures refl
    (noted_by (strict reading) (text_of (Why c.args.form) (wanted c.args.inquiry.now) c.args.name.now) (outcome_by (Why c.args.form)) (λ notes ls. Unit {0})
    _ _ _ _ _ _ _ _ _ _ _ (rw c.manner-manner.ensures at c.why_around-told.ensures.told) (rw c.manner-manner.ensures at c.why_around-told.ensures.ok) c.why_around-told.ensures.reads (rw c.manner-manner.ensures at c.why_around-told.ensures.beginning) c.why_around-told.ensures.unwritten
    c.why_around-told.ensures.read_failures c.why_around-told.ensures.write_failures)
