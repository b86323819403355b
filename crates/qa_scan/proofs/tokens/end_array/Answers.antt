use Rattle.std.proofs.lemmas.Option.{IfSome_then}
use Rattle.qa_scan.proofs.Lexing.{then, lexes_end_array}
use Rattle.qa_scan.proofs.tokens.end_array.Goals as goal

pub returns : goal.returns
returns c = IfSome_then c.after_byte.result c.after_byte.ensures (λ rest is. then c.skip_space.ensures (lexes_end_array _ _ is))
