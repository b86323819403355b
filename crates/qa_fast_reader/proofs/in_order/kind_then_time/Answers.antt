use Rattle.std.proofs.Common.{Some, codes, refl}
use Rattle.qa_base.specs.values.Names.{line_kind_name}
use Rattle.qa_format.specs.format.Written.{integer}
use Rattle.qa_fast_reader.specs.declared.found.Found.{Found}
use Rattle.qa_fast_reader.specs.Found.{begun, nothing, line_kind_data}
use Rattle.qa_fast_reader.proofs.Finding.{put_event, put_time}
use Rattle.qa_fast_reader.proofs.Spelling.{line_kind_is_plain}
use Rattle.qa_fast_reader.proofs.Taking.{front_if, later_if, integer_value, string_value}
use Rattle.qa_fast_reader.proofs.in_order.kind_then_time.Goals as goal

pub returns : goal.returns
returns c whole before =
    let kind = c.in_ok-kind.kind in
    let time = c.in_ok-time.time in
    let one : Found = record nothing { event = Some kind } in
    let first = front_if (codes "event") one whole c.args.bytes.now c.in_ok-value_at.field-0.now c.in_ok-kind.rest.now refl before (c.in_ok-value_at.ensures (codes "event") refl)
    (λ _. record { value = line_kind_data kind; is = string_value (line_kind_name kind) _ _ (line_kind_is_plain kind) c.in_ok-kind.ensures; keeps = put_event nothing kind }) in
    later_if (codes "time") one (begun kind time) whole c.in_ok-kind.rest.now c.in_ok-next_value.field-0.now c.in_ok-time.rest.now refl (c.in_ok-next_value.ensures (codes "time") refl)
    (λ ended. record { value = integer time; is = integer_value time _ _ c.in_ok-time.ensures.0 (c.in_ok-time.ensures.1 ended); keeps = put_time one time }) first
