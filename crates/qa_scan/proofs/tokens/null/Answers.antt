use Rattle.qa_scan.proofs.Lexing.{lexes_null}
use Rattle.qa_scan.proofs.tokens.null.Goals as goal

pub returns-then-ends_word : goal.returns-then-ends_word
returns-then-ends_word c = lexes_null c.args.bytes.now c.in_ok-rest.rest.now (c.ends_word.ensures c.if-ends_word.true) c.in_ok-rest.ensures
