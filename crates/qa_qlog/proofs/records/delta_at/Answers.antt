use Rattle.std.proofs.Common.{codes}
use Rattle.qa_qlog.specs.Records.{at_key}
use Rattle.qa_qlog.proofs.Values.{or_found, or_second}
use Rattle.qa_qlog.proofs.records.delta_at.Goals as goal

pub returns-in-Some : goal.returns-in-Some
returns-in-Some c j begins = or_found _ (at_key c.args.fields.now (codes "delta") j) _ (c.in-Some.ensures j begins)

pub returns-in-Some-at_key : goal.returns-in-Some-at_key
returns-in-Some-at_key c j begins =
    or_second c.in-Some-at_key.found (at_key c.args.fields.now (codes "delta") j) (at_key c.args.fields.now (codes "delta_time") j) (at_key c.args.fields.now (codes "relative_to_previous_event") j) (c.in_default.ensures j begins) (c.in-Some-at_key.ensures j begins)
