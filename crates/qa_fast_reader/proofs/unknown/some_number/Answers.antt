use Rattle.std.proofs.lemmas.Option.{IfSome_then}
use Rattle.qa_format.specs.format.Written.{integer}
use Rattle.qa_fast_reader.proofs.Items.{simple_integer, any_number}
use Rattle.qa_fast_reader.proofs.unknown.some_number.Goals as goal

pub returns-in-Some : goal.returns-in-Some
returns-in-Some c =
    let n = c.in-Some._value in
    (integer n, simple_integer n c.args.bytes.now c.in-Some.rest.now c.in-Some.ensures.0 c.in-Some.ensures.1)

pub returns : goal.returns
returns c = IfSome_then c.number.result c.number.ensures (λ rest is. any_number c.args.bytes.now rest.now is)
