use Rattle.std.proofs.Common.{Some, ap}
use Rattle.qa_check.proofs.Growing.{open_from, end_without, end_with}
use Rattle.qa_check.proofs.checker.Checker.verdict.Goals as goal

pub returns-in-None-clause-verdict : goal.returns-in-None-clause-verdict
returns-in-None-clause-verdict g c = rw (← c.self.view_is) (λ whole ls stands. ap Some (end_without _ _ _ _ ls c.in-None.is (open_from _ _ _ _ _ ls c.in_default.is stands)))

pub returns-then-is_owing-clause-verdict : goal.returns-then-is_owing-clause-verdict
returns-then-is_owing-clause-verdict g c = rw (← c.self.view_is) (λ whole ls stands.
    let end = end_with _ _ c.in-Some-ledger.ledger _ _ c.is_owing.result c.state.result ls c.in-Some-ledger.is c.is_owing.ensures c.state.ensures.totals (open_from _ _ _ _ _ ls c.in_default.is stands) in
    ap Some (rw c.if-is_owing.true at end))

pub returns-else-is_owing-clause-verdict : goal.returns-else-is_owing-clause-verdict
returns-else-is_owing-clause-verdict g c = rw (← c.self.view_is) (λ whole ls stands.
    let end = end_with _ _ c.in-Some-ledger.ledger _ _ c.is_owing.result c.state-else-is_owing.result ls c.in-Some-ledger.is c.is_owing.ensures c.state-else-is_owing.ensures.totals (open_from _ _ _ _ _ ls c.in_default.is stands) in
    ap Some (rw c.if-is_owing.false at end))
