use Rattle.std.proofs.Common.{rules}
use Rattle.qa_why.proofs.caveats_lemmas.Noted.{if_ok}
use Rattle.qa_why.proofs.telling.find.Goals as goal

pub returns-in-Ok-clause-told : goal.returns-in-Ok-clause-told
returns-in-Ok-clause-told g c =
    let walked = c.in-Ok.ensures.walks in
    let held = walked.3.3 c.new-caveats.ensures in
    if_ok c.why_of.result _ _ c.why_of.ensures.told (λ why tells.
    let told = tells walked.0 walked.2 (search (rules, held)) in
    (walked.0, walked.1, (told.0, search (rules, walked.3.4), told.1)))
