use Rattle.std.proofs.lemmas.Option.{IfSome_then}
use Rattle.qa_scan.proofs.Lexing.{spaced, lexes_comma}
use Rattle.qa_scan.proofs.tokens.comma.Goals as goal

pub returns : goal.returns
returns c = IfSome_then c.past.result c.past.ensures (λ rest past. spaced past.spaced (lexes_comma _ _ past.is) past.spaced_behind)
