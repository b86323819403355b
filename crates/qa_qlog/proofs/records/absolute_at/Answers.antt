use Rattle.std.proofs.Common.{codes}
use Rattle.qa_qlog.specs.Records.{at_key}
use Rattle.qa_qlog.proofs.Values.{or_found}
use Rattle.qa_qlog.proofs.records.absolute_at.Goals as goal

pub returns-in-Some : goal.returns-in-Some
returns-in-Some c j begins = or_found _ (at_key c.args.fields.now (codes "absolute") j) _ (c.in-Some.ensures j begins)
