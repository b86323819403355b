use Rattle.std.proofs.Common.{◌∙◌, ap, ap₂, subst, sym}
use Rattle.std.specs.Option.{option_or}
use Rattle.qa_format.proofs.verdicts.Stops.{header_in-snoc}
use Rattle.qa_format.specs.format.Reading.{reading}
use Rattle.qa_format.specs.verdicts.Verdict.{header_said}
use Rattle.qa_why_command.specs.warnings.Found.{found}
use Rattle.qa_why_command.specs.warnings.Keeping.{Tells}
use Rattle.qa_why_command.proofs.warnings_lemmas.Found.{found_more}
use Rattle.qa_why_command.proofs.warnings.warnings.WarningsNotes.note.Goals as goal

pub returns : goal.returns
returns g c = λ begun ls covers count held.
    let told = c.in_ok-tell.ensures (found ls) covers.0 in
    let more = found_more ls c.args.line.now c.args.said.now c.args.n c.args.self.now.header c.requires.says count covers.1 in
    let header = c.or-self.ensures ∙ ap₂ option_or (told.1 ∙ covers.1) (c.header_said.ensures ∙ sym (ap header_said c.requires.says)) in
    (subst (Tells c.args.name.now c.tell.new.self.told) more told.0, header ∙ sym (header_in-snoc reading ls c.args.line.now))
