use Rattle.std.proofs.Common.{Some, subst, codes, refl}
use Rattle.qa_format.specs.format.Written.{integer}
use Rattle.qa_fast_reader.specs.declared.found.Found.{Found}
use Rattle.qa_fast_reader.specs.Found.{Puts}
use Rattle.qa_fast_reader.proofs.Finding.{put_bytes_in_flight}
use Rattle.qa_fast_reader.proofs.Taking.{integer_value, first_if}
use Rattle.qa_fast_reader.proofs.found.Found.in_flight_first.Goals as goal

pub returns : goal.returns
returns c =
    let n = c.in_ok-value.value in
    let behind = c.in_ok-after.field-0.now in
    let rest = c.in_ok-value.rest.now in
    let old = c.args.self.now in
    let new : Found = record old { values = record old.values { bytes_in_flight = Some n } } in
    first_if (codes "bytes_in_flight") new c.args.bytes.now behind rest refl c.in_ok-after.ensures
    (λ ended. subst (λ (f : Found). Puts (codes "bytes_in_flight") f new behind rest) c.requires (record { value = integer n; is = integer_value n behind rest c.in_ok-value.ensures.0 (c.in_ok-value.ensures.1 ended); keeps = put_bytes_in_flight old n c.in_ok-value.ensures.0 }))
