use Rattle.std.proofs.Common.{◌∙◌, Ok, Err, ap}
use Rattle.serde_json.specs.View.{view}
use Rattle.qa_base.specs.declared.key.Key.TheVariants as key
use Rattle.qa_format.specs.format.Keys.{ranged}
use Rattle.qa_base.specs.values.Limits.{max_time}
use Rattle.qa_read.proofs.Ranged.{handed_on, integer_at}
use Rattle.qa_read.proofs.fields.time.Goals as goal

pub returns : goal.returns
returns c = c.ok_or.ensures.value ∙ ap (ranged key.Time) c.new.ensures ∙ integer_at 0 max_time key.Time (view c.args.object.now) (Ok _) c.in_ok-time.ensures

pub returns-in_err-time : goal.returns-in_err-time
returns-in_err-time c =
    handed_on c.from_residual.result c.in_err-time.field-0.0 c.from_residual.ensures.1
    ∙ integer_at 0 max_time key.Time (view c.args.object.now) (Err _) c.in_err-time.ensures
