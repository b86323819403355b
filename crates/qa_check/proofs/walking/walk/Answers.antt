use Rattle.qa_check.proofs.walking.walk.Goals as goal

pub returns-in-Ok-clause-walks : goal.returns-in-Ok-clause-walks
returns-in-Ok-clause-walks g c =
    let walked = c.in-Ok.ensures.walks in
    (walked.0, walked.1, c.end_of.ensures.ends c.args.keeps walked.0 walked.2.0, walked.2.1)
