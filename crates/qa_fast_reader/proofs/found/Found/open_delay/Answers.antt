use Rattle.qa_format.specs.format.Written.{integer}
use Rattle.qa_fast_reader.proofs.Finding.{put_delay}
use Rattle.qa_fast_reader.proofs.Taking.{integer_value}
use Rattle.qa_fast_reader.proofs.found.Found.open_delay.Goals as goal

pub returns : goal.returns
returns c ended =
    let n = c.in_ok-value.value in
    record { value = integer n; is = integer_value n c.args.bytes.now c.in_ok-value.rest.now c.in_ok-value.ensures.0 (c.in_ok-value.ensures.1 ended); keeps = put_delay c.args.self.now n }
