use Rattle.qa_check.proofs.checker.Checker.ledger.Goals as goal

-- Written out, so that a wrong body is refused at this line.
pub returns-clause-ledger : goal.returns-clause-ledger
returns-clause-ledger g c = rw (← c.self.view_is) c.as_ref.ensures.value
