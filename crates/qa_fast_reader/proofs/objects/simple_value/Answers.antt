use Rattle.qa_fast_reader.proofs.Making.{string_made, boolean_made, null_made, integer_made}
use Rattle.qa_fast_reader.proofs.objects.simple_value.Goals as goal

pub returns-in_ok-text_of-in-34 : goal.returns-in_ok-text_of-in-34
returns-in_ok-text_of-in-34 c =
    let found = c.in_ok-text-in-34.ensures in
    string_made c.in_ok-text_of-in-34.field-0 c.in_ok-text-in-34.text.now c.args.bytes.now c.in_ok-text-in-34.rest.now c.in_ok-text_of-in-34.ensures found.0 found.1

pub returns-in_ok-value-in-116 : goal.returns-in_ok-value-in-116
returns-in_ok-value-in-116 c = boolean_made c.in_ok-value-in-116.value c.args.bytes.now c.in_ok-value-in-116.rest.now c.in_ok-value-in-116.ensures

pub returns-in_ok-rest-in-110 : goal.returns-in_ok-rest-in-110
returns-in_ok-rest-in-110 c = null_made c.args.bytes.now c.in_ok-rest-in-110.rest.now c.in_ok-rest-in-110.ensures

pub returns-in_ok-value-in_default-first : goal.returns-in_ok-value-in_default-first
returns-in_ok-value-in_default-first c =
    let found = c.in_ok-value-in_default-first.ensures in
    integer_made c.from.result c.in_ok-value-in_default-first.value c.args.bytes.now c.in_ok-value-in_default-first.rest.now c.from.ensures found.0 found.1
