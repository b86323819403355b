use Rattle.std.proofs.Common.{refl}
use Rattle.qa_violations.proofs.all.keeping.Kept.new.Goals as goal

pub returns-clause-fresh : goal.returns-clause-fresh
returns-clause-fresh c = λ name. (c.new.ensures.fresh name, (c.new-2.ensures.items, c.new-3.ensures), refl, refl)
