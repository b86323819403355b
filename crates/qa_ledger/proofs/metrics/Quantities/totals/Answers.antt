use Rattle.std.proofs.Common.{rules}
use Rattle.qa_ledger.proofs.metrics.Quantities.totals.Goals as goal

pub returns : goal.returns
returns c = search rules
