use Rattle.qa_qlog.specs.Records.{delta_at, relative_at, absolute_at}
use Rattle.qa_qlog.proofs.Values.{or_found, or_second}
use Rattle.qa_qlog.proofs.records.named_at.Goals as goal

pub returns-in-Some : goal.returns-in-Some
returns-in-Some c j begins = or_found _ (delta_at c.args.fields.now j) _ (c.in-Some.ensures j begins)

pub returns-in-Some-relative_at : goal.returns-in-Some-relative_at
returns-in-Some-relative_at c j begins =
    or_second c.in-Some-relative_at.found (delta_at c.args.fields.now j) (relative_at c.args.fields.now j) (absolute_at c.args.fields.now j) (c.in_default.ensures j begins) (c.in-Some-relative_at.ensures j begins)
