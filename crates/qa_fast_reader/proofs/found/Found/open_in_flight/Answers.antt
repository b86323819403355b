use Rattle.qa_format.specs.format.Written.{boolean}
use Rattle.qa_fast_reader.proofs.Finding.{put_in_flight}
use Rattle.qa_fast_reader.proofs.Taking.{boolean_value}
use Rattle.qa_fast_reader.proofs.found.Found.open_in_flight.Goals as goal

pub returns : goal.returns
returns c ended =
    let x = c.in_ok-value.value in
    record { value = boolean x; is = boolean_value x c.args.bytes.now c.in_ok-value.rest.now (c.in_ok-value.ensures ended); keeps = put_in_flight c.args.self.now x }
