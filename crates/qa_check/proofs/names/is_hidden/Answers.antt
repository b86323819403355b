use Rattle.qa_check.proofs.names_lemmas.Printable.{not_hidden}
use Rattle.qa_check.proofs.names.is_hidden.Goals as goal

pub returns-then-character-le126 : goal.returns-then-character-le126
returns-then-character-le126 c = not_hidden c.args.character c.if-character-ge32.true c.if-character-le126.true
