use Rattle.qa_convert.proofs.survey.Survey.see_other.Goals as goal

pub returns-in-Recovery : goal.returns-in-Recovery
returns-in-Recovery c sent received to = rw c.in-Recovery.is (c.see_recovery.ensures c.args.at to)
