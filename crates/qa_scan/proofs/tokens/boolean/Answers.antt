use Rattle.qa_scan.proofs.Lexing.{lexes_boolean}
use Rattle.qa_scan.proofs.tokens.boolean.Goals as goal

pub returns-then-ends_word : goal.returns-then-ends_word
returns-then-ends_word c = lexes_boolean c.in_ok-value.value c.args.bytes.now c.in_ok-value.rest.now (c.ends_word.ensures c.if-ends_word.true) c.in_ok-value.ensures
