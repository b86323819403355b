use Rattle.qa_format.specs.format.Written.{boolean}
use Rattle.qa_fast_reader.proofs.Finding.{put_eliciting}
use Rattle.qa_fast_reader.proofs.Taking.{boolean_value}
use Rattle.qa_fast_reader.proofs.found.Found.eliciting.Goals as goal

pub returns-clause-found : goal.returns-clause-found
returns-clause-found c = let b = c.in_ok-value.value in record { value = boolean b; is = boolean_value b c.args.bytes.now c.in_ok-value.rest.now c.in_ok-value.ensures; keeps = put_eliciting c.args.self.now b }
