use Rattle.std.proofs.Common.{rules}
use Rattle.std.proofs.lemmas.Iterator.{YieldsList-from_chars}
use Rattle.std.proofs.lemmas.Iterator.Search.{any_from_yields_List}
use Rattle.qa_commands.proofs.Names.{lines_stay}
use Rattle.qa_commands.specs.Names.{is_hidden_in_lines}
use Rattle.qa_commands.proofs.naming.are_shown_as_they_are.Goals as goal

pub returns : goal.returns
returns c =
    lines_stay c.args.text.now c.any.result c.utf8.text
    (any_from_yields_List is_hidden_in_lines _ _ _ c.any.ensures.ran (YieldsList-from_chars c.args.text.now c.utf8.text cc) (λ x b q k. search rules))
