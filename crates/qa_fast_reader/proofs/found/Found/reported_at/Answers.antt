use Rattle.std.proofs.Common.{drop}
use Rattle.qa_base.specs.values.Names.{key_name}
use Rattle.qa_format.specs.format.Written.{integer}
use Rattle.qa_fast_reader.proofs.Spelling.{key_is_plain}
use Rattle.qa_fast_reader.proofs.Taking.{integer_value, next_if, shorter_behind}
use Rattle.qa_fast_reader.proofs.found.Found.reported_at.Goals as goal

pub open_integer_at-requires : goal.open_integer_at-requires
open_integer_at-requires c = c.requires.within

pub returns-clause-found : goal.returns-clause-found
returns-clause-found c whole =
    let n = c.in_ok-value.value in
    let key = c.args.key in
    let behind = drop c.args.place c.args.bytes.now in
    let rest = c.in_ok-value.rest.now in
    next_if (key_name key) c.args.self.now _ whole c.args.bytes.now behind rest (key_is_plain key) c.requires.is
    (λ ended. record { value = integer n; is = integer_value n behind rest c.in_ok-value.ensures.integer.0 (c.in_ok-value.ensures.integer.1 ended); keeps = c.in_ok-put.ensures })

pub returns-clause-shorter : goal.returns-clause-shorter
returns-clause-shorter c = shorter_behind _ _ _ _ c.requires.is c.in_ok-value.ensures.ends
