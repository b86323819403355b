use Rattle.std.proofs.Common.{◌∙◌, ap, is_some, sym}
use Rattle.memchr.proofs.lemmas.ValueLemmas.{FindsNeedle-value}
use Rattle.qa_why.proofs.caveats_lemmas.Guesses.{unguessed}
use Rattle.qa_why.proofs.caveats.guesses.is_guessed.Goals as goal

pub returns-then-is_some : goal.returns-then-is_some
returns-then-is_some c = c.is_some-then-is_some.ensures ∙ ap is_some (FindsNeedle-value _ _ c.find.result c.find.ensures)

pub returns-else-is_some : goal.returns-else-is_some
returns-else-is_some c = unguessed c.args.line.now c.memchr.result (sym c.is_some.ensures ∙ c.if-is_some.false) c.memchr.ensures
