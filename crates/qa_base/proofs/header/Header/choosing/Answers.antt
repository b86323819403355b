use Rattle.qa_base.proofs.header.Header.choosing.Goals as goal

-- Written out, so that a wrong body is refused at this line.
pub returns : goal.returns
returns c = c.in_version.ensures
