use Rattle.std.proofs.lemmas.Option.{IfSome_then}
use Rattle.serde_json.specs.Data as json
use Rattle.qa_format.specs.format.Written.{boolean}
use Rattle.qa_fast_reader.proofs.Items.{simple_boolean, simple_null}
use Rattle.qa_fast_reader.proofs.unknown.simple_value.Goals as goal

pub returns-in_ok-_value-in-116 : goal.returns-in_ok-_value-in-116
returns-in_ok-_value-in-116 c =
    let b = c.in_ok-_value-in-116._value in
    (boolean b, simple_boolean b c.args.bytes.now c.in_ok-_value-in-116.rest.now c.in_ok-_value-in-116.ensures)

pub returns-in-110 : goal.returns-in-110
returns-in-110 c = IfSome_then c.null.result c.null.ensures (λ rest lexed. (json.null, simple_null c.args.bytes.now rest.now lexed))
