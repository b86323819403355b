use Rattle.std.proofs.lemmas.Option.{IfSome_then}
use Rattle.qa_scan.proofs.Lexing.{lexes_boolean}
use Rattle.qa_scan.proofs.tokens.open_boolean.Goals as goal

pub returns : goal.returns
returns c = IfSome_then c.literal.result c.literal.ensures (λ found is ended. lexes_boolean found.0 c.args.bytes.now found.1.now ended is)
