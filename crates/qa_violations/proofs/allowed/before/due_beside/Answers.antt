use Rattle.std.proofs.Common.{◌∙◌, sym}
use Rattle.qa_violations.proofs.allowed_lemmas.Begin.{due_by_client, due_by_packets}
use Rattle.qa_violations.proofs.allowed.before.due_beside.Goals as goal

pub returns-in-Some : goal.returns-in-Some
returns-in-Some g c = λ header h is stands. due_by_packets header h c.in-Some.due (sym c.in-Some.is ∙ is)

pub returns-in-None : goal.returns-in-None
returns-in-None g c = λ header h is stands. c.anti_deadlock.ensures c.requires.works header h stands ∙ due_by_client header h (sym c.in-None.is ∙ is)
