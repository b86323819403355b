use Rattle.std.proofs.lemmas.Option.{IfSome_then}
use Rattle.qa_fast_reader.proofs.Items.{any_text}
use Rattle.qa_fast_reader.proofs.unknown.some_text.Goals as goal

pub returns : goal.returns
returns c = IfSome_then c.any_string.result c.any_string.ensures (λ rest is. any_text c.args.bytes.now rest.now is)
