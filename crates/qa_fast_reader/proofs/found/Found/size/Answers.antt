use Rattle.qa_format.specs.format.Written.{integer}
use Rattle.qa_fast_reader.proofs.Finding.{put_size}
use Rattle.qa_fast_reader.proofs.Taking.{integer_value}
use Rattle.qa_fast_reader.proofs.found.Found.size.Goals as goal

pub returns-clause-found : goal.returns-clause-found
returns-clause-found c = let n = c.in_ok-value.value in record { value = integer n; is = integer_value n c.args.bytes.now c.in_ok-value.rest.now c.in_ok-value.ensures.0 c.in_ok-value.ensures.1; keeps = put_size c.args.self.now n }
