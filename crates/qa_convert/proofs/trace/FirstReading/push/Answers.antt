use Rattle.qa_convert.proofs.trace.FirstReading.push.Goals as goal

pub returns-clause-fault : goal.returns-clause-fault
returns-clause-fault c = rw (← c.self.view_is) c.push-result.ensures.fault
