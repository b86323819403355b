use Rattle.std.proofs.lemmas.Option.{IfSome_then}
use Rattle.serde_json.specs.View.{view}
use Rattle.qa_scan.specs.Lexes.{deepest}
use Rattle.qa_fast_reader.proofs.Items.{simple_is_value, items_begin}
use Rattle.qa_fast_reader.proofs.Making.{empty_made}
use Rattle.qa_fast_reader.proofs.objects.value.Goals as goal

pub returns-in_default : goal.returns-in_default
returns-in_default c =
    IfSome_then c.simple_value.result c.simple_value.ensures (λ rest one. simple_is_value deepest (view c.simple_value.new.into) c.args.bytes.now rest.now one)

pub returns-in-Some-end_array : goal.returns-in-Some-end_array
returns-in-Some-end_array c =
    empty_made c.new.result c.args.bytes.now c.in-Some.inside.now c.in-Some-end_array.rest.now c.new.ensures.items c.in-Some.ensures c.in-Some-end_array.ensures

pub returns : goal.returns
returns c = c.list.ensures c.args.bytes.now (items_begin deepest c.args.bytes.now c.in-Some.inside.now c.in-Some.ensures)
