use Rattle.std.proofs.Common.{codes, refl}
use Rattle.qa_format.specs.format.Written.{integer}
use Rattle.qa_fast_reader.proofs.Finding.{put_number}
use Rattle.qa_fast_reader.proofs.Taking.{integer_value, next_if}
use Rattle.qa_fast_reader.proofs.found.Found.number_next.Goals as goal

pub returns : goal.returns
returns c whole =
    let n = c.in_ok-value.value in
    let behind = c.in_ok-after.field-0.now in
    let rest = c.in_ok-value.rest.now in
    next_if (codes "number") c.args.self.now _ whole c.args.bytes.now behind rest refl c.in_ok-after.ensures
    (λ ended. record { value = integer n; is = integer_value n behind rest c.in_ok-value.ensures.0 (c.in_ok-value.ensures.1 ended); keeps = put_number c.args.self.now n })
