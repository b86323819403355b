use Rattle.std.proofs.Common.{decimal, drop}
use Rattle.std.proofs.lemmas.Option.{IfSome_then}
use Rattle.qa_scan.proofs.Lexing.{lexes_integer}
use Rattle.qa_scan.proofs.tokens.open_integer_at.Goals as goal

pub returns-clause-integer : goal.returns-clause-integer
returns-clause-integer c =
    IfSome_then c.digits_at.result c.digits_at.ensures
    (λ found is. (is.1, λ ended. lexes_integer found.0 (drop c.args.place c.args.bytes.now) found.1.now is.1 ended is.0))

pub returns-clause-ends : goal.returns-clause-ends
returns-clause-ends c = IfSome_then c.digits_at.result c.digits_at.ensures (λ found is. (decimal found.0, is.0))
