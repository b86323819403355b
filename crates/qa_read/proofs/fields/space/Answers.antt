use Rattle.std.proofs.Common.{◌∙◌, Ok, Err, ap}
use Rattle.serde_json.specs.View.{view}
use Rattle.qa_base.specs.declared.key.Key.TheVariants as key
use Rattle.qa_format.specs.format.Keys.{ranged}
use Rattle.qa_base.specs.values.Names.{space_named}
use Rattle.qa_read.proofs.Ranged.{handed_on, string_at}
use Rattle.qa_read.proofs.fields.space.Goals as goal

pub returns : goal.returns
returns c = c.ok_or.ensures.value ∙ ap (ranged key.Space) c.named.ensures ∙ string_at space_named key.Space (view c.args.object.now) (Ok _) c.in_ok-name.ensures

pub returns-in_err-name : goal.returns-in_err-name
returns-in_err-name c =
    handed_on c.from_residual.result c.in_err-name.field-0.0 c.from_residual.ensures.1
    ∙ string_at space_named key.Space (view c.args.object.now) (Err _) c.in_err-name.ensures
