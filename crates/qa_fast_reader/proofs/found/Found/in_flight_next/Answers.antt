use Rattle.std.proofs.Common.{codes, refl}
use Rattle.qa_format.specs.format.Written.{boolean}
use Rattle.qa_fast_reader.proofs.Finding.{put_in_flight}
use Rattle.qa_fast_reader.proofs.Taking.{boolean_value, next_if}
use Rattle.qa_fast_reader.proofs.found.Found.in_flight_next.Goals as goal

pub returns : goal.returns
returns c whole =
    let b = c.in_ok-value.value in
    let behind = c.in_ok-after.field-0.now in
    let rest = c.in_ok-value.rest.now in
    next_if (codes "in_flight") c.args.self.now _ whole c.args.bytes.now behind rest refl c.in_ok-after.ensures
    (λ ended. record { value = boolean b; is = boolean_value b behind rest (c.in_ok-value.ensures ended); keeps = put_in_flight c.args.self.now b })
