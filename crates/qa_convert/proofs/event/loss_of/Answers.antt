use Rattle.std.proofs.Common.{None, Some, refl}
use Rattle.qa_convert.proofs.event.loss_of.Goals as goal

pub returns-clause-says : goal.returns-clause-says
returns-clause-says c j begins = c.lost_of.ensures.says (Some j) None (j, refl, begins) refl

pub returns-clause-fault : goal.returns-clause-fault
returns-clause-fault c j begins = c.lost_of.ensures.fault (Some j) None (j, refl, begins) refl
