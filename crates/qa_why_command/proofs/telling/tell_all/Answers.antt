use Rattle.std.proofs.Common.{refl}
use Rattle.qa_violations.specs.all.All.{past_sender_rules}
use Rattle.qa_why_command.specs.warnings.Keeping.{Covers}
use Rattle.qa_arguments.specs.why.Asked.{wanted}
use Rattle.qa_arguments.specs.declared.why.arguments.Told.TheVariants.{All}
use Rattle.qa_why_command.proofs.Noted.{noted_by, read_unwarned, read_warned}
use Rattle.qa_why_command.specs.Telling.{outcome_by, text_of}
use Rattle.qa_why_command.proofs.telling.tell_all.Goals as goal

pub why_all-noted-requires : goal.why_all-noted-requires
why_all-noted-requires g c = record { fresh = c.new-warnings.ensures c.args.name.now }

pub returns-then-inquiry : goal.returns-then-inquiry
returns-then-inquiry g c =
    read_warned (All c.args.form) (wanted c.args.inquiry.now) c.args.name.now _ _ _ _ _ _ _ _ refl c.if-inquiry.true c.warned.ensures.outcome c.warned.ensures.told
    (noted_by past_sender_rules (text_of (All c.args.form) (wanted c.args.inquiry.now) c.args.name.now) (outcome_by (All c.args.form)) (Covers c.args.name.now)
    _ _ _ _ _ _ _ _ _ _ _ (rw c.manner-manner.ensures at c.why_all-noted.ensures.told) (rw c.manner-manner.ensures at c.why_all-noted.ensures.ok) c.why_all-noted.ensures.reads (rw c.manner-manner.ensures at c.why_all-noted.ensures.beginning) c.why_all-noted.ensures.unwritten
    c.why_all-noted.ensures.read_failures c.why_all-noted.ensures.write_failures)

pub returns : goal.returns
returns g c =
    read_unwarned (All c.args.form) (wanted c.args.inquiry.now) c.args.name.now (λ notes ls. Unit {0}) _ _ _ _ _ _ _ _ refl c.if-inquiry.false c.without_notes.ensures refl
    (noted_by past_sender_rules (text_of (All c.args.form) (wanted c.args.inquiry.now) c.args.name.now) (outcome_by (All c.args.form)) (λ notes ls. Unit {0})
    _ _ _ _ _ _ _ _ _ _ _ (rw c.manner-manner.ensures at c.why_all-told.ensures.told) (rw c.manner-manner.ensures at c.why_all-told.ensures.ok) c.why_all-told.ensures.reads (rw c.manner-manner.ensures at c.why_all-told.ensures.beginning) c.why_all-told.ensures.unwritten
    c.why_all-told.ensures.read_failures c.why_all-told.ensures.write_failures)
