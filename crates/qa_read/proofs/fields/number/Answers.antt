use Rattle.std.proofs.Common.{◌∙◌, Ok, Err, ap}
use Rattle.serde_json.specs.View.{view}
use Rattle.qa_base.specs.declared.key.Key.TheVariants as key
use Rattle.qa_format.specs.format.Keys.{ranged}
use Rattle.qa_base.specs.values.Limits.{max_packet_number}
use Rattle.qa_read.proofs.Ranged.{handed_on, integer_at}
use Rattle.qa_read.proofs.fields.number.Goals as goal

pub returns : goal.returns
returns c = c.ok_or.ensures.value ∙ ap (ranged key.Number) c.new.ensures ∙ integer_at 0 max_packet_number key.Number (view c.args.object.now) (Ok _) c.in_ok-number.ensures

pub returns-in_err-number : goal.returns-in_err-number
returns-in_err-number c =
    handed_on c.from_residual.result c.in_err-number.field-0.0 c.from_residual.ensures.1
    ∙ integer_at 0 max_packet_number key.Number (view c.args.object.now) (Err _) c.in_err-number.ensures
