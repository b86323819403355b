use Rattle.std.proofs.lemmas.Option.{IfSome_then}
use Rattle.qa_fast_reader.proofs.Items.{simple_is_value}
use Rattle.qa_fast_reader.proofs.unknown.any_value.Goals as goal

pub returns-then-first-eq34 : goal.returns-then-first-eq34
returns-then-first-eq34 c = IfSome_then c.some_text.result c.some_text.ensures (λ rest one. (one.0, simple_is_value 126 one.0 c.args.bytes.now rest.now one.1))
