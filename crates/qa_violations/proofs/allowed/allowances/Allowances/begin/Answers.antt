use Rattle.std.proofs.Common.{◌∙◌, [], ap, not}
use Rattle.qa_violations.proofs.allowed_lemmas.Begin.{begun_at, stays_at}
use Rattle.qa_violations.proofs.allowed.allowances.Allowances.begin.Goals as goal

pub returns-then-is_none-clause-at : goal.returns-then-is_none-clause-at
returns-then-is_none-clause-at g c = λ old header h at is stands.
    begun_at c.args.self.now c.first-self.result c.args.header old header h (g.L.Ledger.stands c.args.ledger.now) (c.is_none.ensures ∙ ap not c.if-is_none.true)
    (λ d stood. c.first-self.ensures d (c.totals.ensures.totals d [] stood)) at is stands

pub returns-else-is_none-clause-at : goal.returns-else-is_none-clause-at
returns-else-is_none-clause-at g c = λ old header h at is stands. stays_at c.args.self.now c.args.header old header h (c.is_none.ensures ∙ ap not c.if-is_none.false) at is
