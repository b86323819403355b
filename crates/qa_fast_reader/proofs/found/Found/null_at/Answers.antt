use Rattle.serde_json.specs.Data as json
use Rattle.qa_fast_reader.proofs.Taking.{null_value}
use Rattle.qa_fast_reader.proofs.found.Found.null_at.Goals as goal

pub returns : goal.returns
returns c = record { value = json.null; is = null_value c.args.bytes.now c.in_ok-rest.rest.now c.in_ok-rest.ensures; keeps = c.in_ok-forget.ensures }
