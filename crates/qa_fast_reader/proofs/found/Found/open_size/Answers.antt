use Rattle.qa_format.specs.format.Written.{integer}
use Rattle.qa_fast_reader.proofs.Finding.{put_size}
use Rattle.qa_fast_reader.proofs.Taking.{integer_value}
use Rattle.qa_fast_reader.proofs.found.Found.open_size.Goals as goal

pub returns : goal.returns
returns c ended =
    let x = c.in_ok-value.value in
    record { value = integer x; is = integer_value x c.args.bytes.now c.in_ok-value.rest.now c.in_ok-value.ensures.0 (c.in_ok-value.ensures.1 ended); keeps = put_size c.args.self.now x }
